-- `inserting::fill_place` meets its contract. Assumes nothing.
use native.Mathlib.Omega.{arith}
use lib.ListN.{length-set}
use Rattle.inserting.proofs.Moving.{filled}
use Rattle.inserting.proofs.fill_place.Goals as goal

pub bounds-w-count : goal.bounds-w-count
bounds-w-count c = simp length-set (omega arith)

pub bounds-w-place : goal.bounds-w-place
bounds-w-place c = simp length-set (omega arith)

pub bounds-w-place-2 : goal.bounds-w-place-2
bounds-w-place-2 c = simp length-set (omega arith)

pub shape_of-w : goal.shape_of-w
shape_of-w c =
    (filled c.args.place c.args.size c.args.w.now c.requires.0 c.requires.1 c.requires.2 c.store_pair.ensures).size

pub returns : goal.returns
returns c =
    filled c.args.place c.args.size c.args.w.now c.requires.0 c.requires.1 c.requires.2 c.store_pair.ensures
