-- `judging::is_key_at` meets its contract. Assumes nothing.
use Rattle.std.proofs.Common.{sym, refl, ◌∙◌}
use Rattle.model.specs.Judging.{is_key}
use Rattle.judging.proofs.is_key_at.Goals as goal

pub returns-then-is_named_at : goal.returns-then-is_named_at
unfolding is_key
returns-then-is_named_at c = rw (sym c.is_named_at.ensures ∙ c.if-is_named_at.true) c.is_algorithm.ensures

pub returns-else-is_named_at : goal.returns-else-is_named_at
unfolding is_key
returns-else-is_named_at c = rw (sym c.is_named_at.ensures ∙ c.if-is_named_at.false) refl
