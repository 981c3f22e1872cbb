-- `removing::remove` meets its contract. Assumes nothing.
use mathlib.Core.Path.{◌∙◌}
use native.Mathlib.Omega.{arith}
use Rattle.removing.proofs.Moving.{moved_down}
use Rattle.removing.proofs.Removing.{sizes, removed}
use Rattle.removing.proofs.remove.Goals as goal

pub bounds-words-1 : goal.bounds-words-1
bounds-words-1 c = omega (arith, sizes c.requires.0 c.requires.1, c.requires.1)

pub overflow_add-place : goal.overflow_add-place
overflow_add-place c = omega (arith, sizes c.requires.0 c.requires.1, c.requires.1)

pub offset_bounds-words-row : goal.offset_bounds-words-row
offset_bounds-words-row c = omega (arith, sizes c.requires.0 c.requires.1, c.requires.1)

pub bounds-words-row : goal.bounds-words-row
bounds-words-row c = omega (arith, sizes c.requires.0 c.requires.1, c.requires.1)

pub overflow_mul-place : goal.overflow_mul-place
overflow_mul-place c = omega (arith, sizes c.requires.0 c.requires.1, c.requires.1)

pub overflow_mul-n : goal.overflow_mul-n
overflow_mul-n c = omega (arith, sizes c.requires.0 c.requires.1, c.requires.1)

pub overflow_add-place-2 : goal.overflow_add-place-2
overflow_add-place-2 c = omega (arith, sizes c.requires.0 c.requires.1, c.requires.1)

pub overflow_add-n : goal.overflow_add-n
overflow_add-n c = omega (arith, sizes c.requires.0 c.requires.1, c.requires.1)

pub overflow_mul-place-2 : goal.overflow_mul-place-2
overflow_mul-place-2 c = omega (arith, sizes c.requires.0 c.requires.1, c.requires.1)

pub copy_within-requires-clause-start_le_end : goal.copy_within-requires-clause-start_le_end
copy_within-requires-clause-start_le_end c = omega (arith, sizes c.requires.0 c.requires.1, c.requires.1)

pub copy_within-requires-clause-in_bounds : goal.copy_within-requires-clause-in_bounds
copy_within-requires-clause-in_bounds c = omega (arith, sizes c.requires.0 c.requires.1, c.requires.1)

pub copy_within-requires-clause-dest_in_bounds : goal.copy_within-requires-clause-dest_in_bounds
copy_within-requires-clause-dest_in_bounds c = omega (arith, sizes c.requires.0 c.requires.1, c.requires.1)

pub set_head-requires : goal.set_head-requires
set_head-requires c = let z = sizes c.requires.0 c.requires.1 in (z.words, omega arith)

pub close_place-requires : goal.close_place-requires
close_place-requires c =
    let z = sizes c.requires.0 c.requires.1 in
    (c.set_head.ensures.size ∙ z.words, omega (arith, z, c.requires.1), omega (arith, z, c.requires.1), omega (arith, z, c.requires.1))

pub returns : goal.returns
returns c =
    let z = sizes c.requires.0 c.requires.1 in
    removed c.args.row _ c.args.words.now c.args.suffixes.now _ _ _ c.requires.0 (omega (arith, c.requires.1)) c.requires.1
    (moved_down c.copy_within.ensures.len (omega (arith, z)) (omega arith) (omega arith) c.copy_within.ensures.by_index.0 c.copy_within.ensures.by_index.1 c.copy_within.ensures.by_index.2)
    c.set_head.ensures c.close_place.ensures
