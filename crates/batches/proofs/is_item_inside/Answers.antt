-- `batches::is_item_inside` meets its contract. Assumes nothing.
use mathlib.Core.Path.{refl}
use Rattle.batches.proofs.is_item_inside.Goals as goal

pub returns : goal.returns
returns c = rw (c.is_inside.ensures, c.is_inside-2.ensures, c.is_inside-3.ensures) refl
