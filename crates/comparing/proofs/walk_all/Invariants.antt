-- `comparing::walk_all` meets its contract. Assumes nothing.
use Prim.Native.Nat.{◌-◌}
use lib.ListN.{length}
use Rattle.comparing.proofs.Walking.{Walking}
use Rattle.comparing.proofs.walk_all.Given as goal

abbrev pub invariant-loop : goal.invariant-loop
invariant-loop g l = Walking (length l.b) (g.E.Entry.fields l.a) (g.E.Entry.fields l.b) l.count l.from l.to (l.count - l.counter) l.i l.j
