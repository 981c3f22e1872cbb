-- `resolver_replies::offer_granted` meets its contract. Assumes nothing.
use Rattle.answers.specs.Answer.{answer_from}
use Rattle.resolver_replies.proofs.Hearing.{grants, grants_none}
use Rattle.resolver_replies.proofs.offer_granted.Goals as goal

pub returns-in-Some : goal.returns-in-Some
returns-in-Some c =
    let t = answer_from c.args.m.now c.args.owner.now c.args.fields in
    grants _ t _ _ c.part_of.ensures.0 _ c.algorithm_named.ensures _ c.in-Some.is _ c.key_from-key.ensures _ c.offer.ensures

pub returns-in-None : goal.returns-in-None
returns-in-None c =
    let t = answer_from c.args.m.now c.args.owner.now c.args.fields in
    grants_none _ t _ _ c.part_of.ensures.0 _ c.algorithm_named.ensures c.in-None.is
