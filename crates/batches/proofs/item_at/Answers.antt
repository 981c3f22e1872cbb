-- `batches::item_at` meets its contract. Assumes nothing.
use mathlib.Core.Path.{refl}
use Rattle.batches.specs.Batched.{item_at}
use Rattle.batches.proofs.item_at.Goals as goal

pub returns : goal.returns
unfolding item_at
returns c = refl
