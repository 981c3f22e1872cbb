-- `matching::same_rest` meets its contract: the whole is the same where what is left from here is. Assumes nothing.
use Prim.Native.Nat.{◌+◌, ◌-◌}
use Rattle.matching.proofs.Comparing.{Comparing}
use Rattle.matching.proofs.same_rest.Given as goal

abbrev pub invariant-loop-n : goal.invariant-loop-n
invariant-loop-n l = Comparing l.m l.first l.at l.used l.b l.start l.place l.len l.i

abbrev pub decreases-loop-n : goal.decreases-loop-n
decreases-loop-n l = l.start + (255 - l.len)
