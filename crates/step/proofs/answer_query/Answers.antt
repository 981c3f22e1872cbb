-- `step::answer_query` meets its contract. Assumes nothing.
use mathlib.Core.Path.{refl, sym, ◌∙◌}
use Rattle.judging.specs.Judged.{given_of, holder_of}
use Rattle.step.proofs.StepLaws.{early, who_fits, pair_fits, suffix_short, offer_fits, decision_fits, steps_refused, step_keyrec, steps_so}
use Rattle.step.proofs.answer_query.Goals as goal

pub judge-judged-requires : goal.judge-judged-requires
judge-judged-requires c =
    (c.requires.0.signer_fits, c.requires.0.tkey_fits, who_fits c.args.who c.requires.2.ruled, early c.requires.2)

pub returns-then-not-second_ok : goal.returns-then-not-second_ok
returns-then-not-second_ok c =
    let a = c.args in
    let h = holder_of a.who a.suffix.now in
    let g = given_of a.given a.offer.now a.second.now in
    let held = c.pair_of-p.ensures a.suffix.now in
    let lacks = sym c.second_ok.ensures ∙ c.if-not-second_ok.true in
    steps_refused h 19 0 _ c.refused.ensures (step_keyrec c.requires.0 h g _ (c.judge-judged.ensures a.offer.now a.second.now c.requires.4) c.requires.1 (offer_fits _ c.requires.3) _ held a.reply.now a.reply.now lacks)

pub reply-written-requires : goal.reply-written-requires
reply-written-requires c =
    let a = c.args in
    let held = c.pair_of-p.ensures a.suffix.now in (
      c.requires.0,
      decision_fits c.requires.0 (holder_of a.who a.suffix.now) (given_of a.given a.offer.now a.second.now) _ (c.judge-judged.ensures a.offer.now a.second.now c.requires.4) _ a.given.now held (pair_fits c.requires.2 held).expires,
      suffix_short c.requires.2 c.suffix_of-own.ensures,
      c.requires.3,
    )

pub settle-requires : goal.settle-requires
settle-requires c =
    pair_fits c.requires.2 (c.pair_of-p.ensures c.args.suffix.now)

pub returns : goal.returns
returns c =
    let a = c.args in
    let h = holder_of a.who a.suffix.now in
    let g = given_of a.given a.offer.now a.second.now in
    let held = c.pair_of-p.ensures a.suffix.now in
    let serves = sym c.second_ok.ensures ∙ c.if-not-second_ok.false in
    steps_so c.requires.0 h g c.judge-judged.result (c.judge-judged.ensures a.offer.now a.second.now c.requires.4) c.requires.1 (offer_fits _ c.requires.3) _ held a.reply.now _ serves c.reply-written.result c.settle.result
    (c.reply-written.ensures.answers c.requires.0 h g c.suffix_of-own.ensures held refl refl refl) c.settle.ensures
