-- `compression::plain_end` meets its contract: the whole name is read on from here, after the octets between. Assumes nothing.
use Prim.Native.Nat.{◌+◌, ◌-◌}
use Rattle.compression.proofs.Plain.{Plainly}
use Rattle.compression.proofs.plain_end.Given as goal

abbrev pub invariant-loop-n : goal.invariant-loop-n
invariant-loop-n l = Plainly l.m l.at l.place

abbrev pub decreases-loop-n : goal.decreases-loop-n
decreases-loop-n l = l.at + 255 - l.place
