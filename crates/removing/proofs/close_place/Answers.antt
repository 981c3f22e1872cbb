-- `removing::close_place` meets its contract. Assumes nothing.
use native.Mathlib.Omega.{arith}
use Rattle.removing.proofs.Moving.{closed, moved_down}
use Rattle.removing.proofs.close_place.Goals as goal

pub returns : goal.returns
returns c =
    closed c.requires.1 c.requires.2 c.requires.3 (moved_down c.copy_within.ensures.len (omega arith) (omega arith) (omega arith) c.copy_within.ensures.by_index.0 c.copy_within.ensures.by_index.1 c.copy_within.ensures.by_index.2) (moved_down c.copy_within-2.ensures.len (omega arith) (omega arith) (omega arith) c.copy_within-2.ensures.by_index.0 c.copy_within-2.ensures.by_index.1 c.copy_within-2.ensures.by_index.2) c.remap.ensures c.renumber.ensures
