-- `store::set_clock` meets its contract. Assumes nothing.
use Rattle.store.proofs.Storing.{clock_set}
use Rattle.store.proofs.set_clock.Goals as goal

pub returns : goal.returns
returns c = clock_set _ _ c.requires
