-- `resolver_replies::read_reply` meets its contract. Assumes nothing.
use Rattle.resolver_replies.proofs.Hearing.{passed_long, by_passed, by_refusal}
use Rattle.resolver_replies.proofs.read_reply.Goals as goal

pub hear-requires : goal.hear-requires
hear-requires c = passed_long _ _ _ _ c.check_message.ensures _ c.in-Ok.is

pub returns-in-Ok : goal.returns-in-Ok
returns-in-Ok c = by_passed _ _ _ _ c.check_message.ensures _ c.in-Ok.is _ c.hear.ensures

pub returns-in-Err : goal.returns-in-Err
unfolding Rattle.model.specs.Resolver.unheard
returns-in-Err c = rw (c.number.ensures) (by_refusal _ _ _ _ c.check_message.ensures _ c.in-Err.is)
