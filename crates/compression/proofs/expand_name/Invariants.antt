-- `compression::expand_name` meets its contract: the reading of the whole name is the reading from here. Assumes nothing.
use Prim.Native.Nat.{◌+◌, ◌-◌}
use Rattle.compression.proofs.Skipping.{Writing}
use Rattle.compression.proofs.expand_name.Given as goal

abbrev pub invariant-loop-failed : goal.invariant-loop-failed
invariant-loop-failed l = Writing l.m l.at l.start l.place l.len l.behind l.out

abbrev pub decreases-loop-failed : goal.decreases-loop-failed
decreases-loop-failed l = l.start + (255 - l.len)
