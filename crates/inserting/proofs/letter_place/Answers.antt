-- `inserting::letter_place` meets its contract. Assumes nothing.
use native.Mathlib.Omega.{arith}
use Rattle.inserting.proofs.Moving.{lettered, moved_up}
use Rattle.inserting.proofs.letter_place.Goals as goal

pub returns : goal.returns
returns c =
    lettered c.requires.1 c.requires.3 (moved_up {by = 128} c.copy_within.ensures.len (omega arith) c.copy_within.ensures.by_index.0 c.copy_within.ensures.by_index.1 c.copy_within.ensures.by_index.2) c.all_into.ensures.1
