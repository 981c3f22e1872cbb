-- `matching::same_at` meets its contract: nothing was passed before the name. Assumes nothing.
use mathlib.Core.Path.{refl}
use mathlib.Core.List.{[]}
use Rattle.model.specs.Names.{read_name}
use Rattle.matching.proofs.same_at.Goals as goal

pub returns : goal.returns
unfolding read_name
returns c = c.same_rest.ensures [] refl
