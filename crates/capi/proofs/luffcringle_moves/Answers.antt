-- `capi::luffcringle_moves` meets its contract. Assumes nothing.
use mathlib.Core.List.{[], ◌∷◌}
use mathlib.Core.Path.{ap}
use Rattle.model.specs.declared.Moves.{Moves}
use Rattle.capi.specs.Inquired.{moves_words}
use Rattle.capi.proofs.luffcringle_moves.Goals as goal

pub returns : goal.returns
unfolding moves_words
returns c = ap (λ (m : Moves). m.made ∷ m.adopted ∷ m.ended ∷ m.dropped ∷ []) c.moves-m.ensures
