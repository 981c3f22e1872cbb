-- `judging::is_named_at` meets its contract. Assumes nothing.
use Rattle.std.proofs.Common.{ℕ, List, ◌∙◌}
use Rattle.matching.proofs.Comparing.{part_at}
use Rattle.model.specs.Judging.{is_named}
use Rattle.judging.proofs.is_named_at.Goals as goal

pub returns : goal.returns
unfolding is_named
returns c = c.is_key_name_at.ensures ∙ part_at _ _ c.requires.0 (λ (o : List ℕ). o) _
