-- `inserting::open_place` meets its contract. Assumes nothing.
use Prim.Native.Nat.{◌+◌}
use mathlib.Core.Logic.{inl}
use native.Mathlib.Omega.{arith}
use Rattle.inserting.proofs.Moving.{opened, moved_up}
use Rattle.inserting.proofs.open_place.Goals as goal

pub renumber-requires : goal.renumber-requires
renumber-requires c =
    let m = moved_up {by = 16} c.copy_within.ensures.len (omega arith) c.copy_within.ensures.by_index.0 c.copy_within.ensures.by_index.1 c.copy_within.ensures.by_index.2 in
    (omega (arith, m.size), λ i l. rw (m.kept (3 + i) (inl (omega arith))) (c.requires.3 i l))

pub returns : goal.returns
returns c =
    opened c.requires.2 c.requires.1 (moved_up {by = 16} c.copy_within.ensures.len (omega arith) c.copy_within.ensures.by_index.0 c.copy_within.ensures.by_index.1 c.copy_within.ensures.by_index.2) c.renumber.ensures
