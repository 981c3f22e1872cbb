-- `store::suffix_at` meets its contract. Assumes nothing.
use Rattle.octets.proofs.Laws.{part_slice}
use Rattle.store.specs.Layout.{suffix_in}
use Rattle.store.proofs.suffix_at.Goals as goal

pub returns : goal.returns
unfolding suffix_in
returns c = part_slice _ _ _
