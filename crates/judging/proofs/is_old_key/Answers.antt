-- `judging::is_old_key` meets its contract. Assumes nothing.
use Rattle.judging.proofs.is_old_key.Goals as goal

pub returns : goal.returns
returns c = rw (c.part_of-name.ensures.0, c.part_of-algorithm.ensures.0) at c.is_key.ensures
