-- `replies::answer_count` meets its contract. Assumes nothing.
use mathlib.Core.Path.{refl, sym, ◌∙◌}
use native.Mathlib.Omega.{arith}
use Rattle.model.specs.Replies.{answers_of}
use Rattle.replies.proofs.answer_count.Goals as goal

pub returns-then-lends_record : goal.returns-then-lends_record
unfolding answers_of
returns-then-lends_record c = (rw (sym c.lends_record.ensures ∙ c.if-lends_record.true) refl, omega arith)

pub returns-else-lends_record : goal.returns-else-lends_record
unfolding answers_of
returns-else-lends_record c = (rw (sym c.lends_record.ensures ∙ c.if-lends_record.false) refl, omega arith)
