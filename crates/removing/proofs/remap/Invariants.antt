-- `removing::remap` meets its contract. The loop's invariant: the places before the index are done, the others as they were. Assumes nothing.
use Rattle.store.specs.Layout.{place_of}
use Rattle.inserting.proofs.Moving.{Partly}
use Rattle.removing.specs.Remove.{down_from}
use Rattle.removing.proofs.remap.Given as goal

abbrev pub invariant-loop-x : goal.invariant-loop-x
invariant-loop-x l = Partly (down_from l.place) (place_of l.fn.w) l.n l.x-index l.x-items
