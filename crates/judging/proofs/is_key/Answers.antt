-- `judging::is_key` meets its contract. Assumes nothing.
use Rattle.std.proofs.Common.{sym, refl, ◌∙◌}
use Rattle.model.specs.Judging.{is_named, is_key}
use Rattle.judging.proofs.is_key.Goals as goal

pub returns-then-is_key_name : goal.returns-then-is_key_name
unfolding is_key is_named
returns-then-is_key_name c = rw (sym c.is_key_name.ensures ∙ c.if-is_key_name.true) c.is_algorithm.ensures

pub returns-else-is_key_name : goal.returns-else-is_key_name
unfolding is_key is_named
returns-else-is_key_name c = rw (sym c.is_key_name.ensures ∙ c.if-is_key_name.false) refl
