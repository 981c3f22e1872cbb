-- `step::refused` meets its contract. Assumes nothing.
use mathlib.Core.Path.{refl}
use Rattle.step.proofs.refused.Goals as goal

pub returns : goal.returns
returns c = rw (c.bare.ensures, c.number.ensures) refl
