-- `step::message_step` meets its contract. Assumes nothing.
use mathlib.Core.Path.{refl, ap, ◌∙◌}
use Rattle.std.specs.Prelude.{Err}
use Rattle.judging.specs.Judged.{holder_of}
use Rattle.step.proofs.StepLaws.{steps_refused, offer_long, offer_fits, whole_read, step_size, broken_offer, broken_format, whole_offer, whole_response}
use Rattle.step.proofs.message_step.Goals as goal

pub returns-then-offer-gt1024 : goal.returns-then-offer-gt1024
returns-then-offer-gt1024 c =
    steps_refused (holder_of c.args.who c.args.suffix.now) 5 0 _ c.refused-then-offer-gt1024.ensures (broken_offer _ _ _ _ _ c.requires.0 _ (c.in-Err.is ∙ ap Err c.in-Broken.is) (offer_long _ c.if-offer-gt1024.true))

pub returns-then-offer-gt1024-2 : goal.returns-then-offer-gt1024-2
returns-then-offer-gt1024-2 c =
    steps_refused (holder_of c.args.who c.args.suffix.now) 5 0 _ c.refused-then-offer-gt1024-2.ensures (whole_offer _ _ _ _ _ c.requires.0 _ c.in-Ok.is (offer_long _ c.if-offer-gt1024-2.true))

pub returns-then-c : goal.returns-then-c
returns-then-c c =
    steps_refused (holder_of c.args.who c.args.suffix.now) 7 0 _ c.refused-then-c.ensures (whole_response _ _ _ _ _ c.requires.0 _ c.in-Ok.is (offer_fits _ c.if-offer-gt1024-2.false) c.if-c.true)

pub answer_query-requires : goal.answer_query-requires
answer_query-requires c =
    (whole_read c.requires.0 c.in-Ok.is, c.if-c.false, c.requires.1, c.if-offer-gt1024-2.false, refl)

pub returns-in-Size : goal.returns-in-Size
returns-in-Size c =
    steps_refused (holder_of c.args.who c.args.suffix.now) 4 0 _ c.refused.ensures (step_size _ _ _ _ _ c.requires.0 (c.in-Err.is ∙ ap Err c.in-Size.is))

pub returns-else-offer-gt1024 : goal.returns-else-offer-gt1024
returns-else-offer-gt1024 c =
    steps_refused (holder_of c.args.who c.args.suffix.now) 6 _ _ c.refused-in-Broken.ensures (broken_format _ _ _ _ _ c.requires.0 _ (c.in-Err.is ∙ ap Err c.in-Broken.is) (offer_fits _ c.if-offer-gt1024.false))
