-- `replies::behind_tkey` meets its contract. Assumes nothing.
use mathlib.Core.Path.{refl, sym, ◌∙◌}
use Rattle.model.specs.Replies.{behind}
use Rattle.replies.proofs.behind_tkey.Goals as goal

pub returns-then-lends_record : goal.returns-then-lends_record
unfolding behind
returns-then-lends_record c = rw (sym c.lends_record.ensures ∙ c.if-lends_record.true) refl

pub returns-else-lends_record : goal.returns-else-lends_record
unfolding behind
returns-else-lends_record c = rw (sym c.lends_record.ensures ∙ c.if-lends_record.false) refl
