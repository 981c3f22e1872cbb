-- `inserting::renumber` meets its contract. The loop's invariant: the places before the index are done, the others as they were. Assumes nothing.
use Rattle.store.specs.Layout.{place_of}
use Rattle.inserting.specs.Insert.{up_from}
use Rattle.inserting.proofs.Moving.{Partly}
use Rattle.inserting.proofs.renumber.Given as goal

abbrev pub invariant-loop-place : goal.invariant-loop-place
invariant-loop-place l = Partly (up_from l.gap) (place_of l.fn.w) l.n l.place-index l.place-items
