-- `compression::copy` meets its contract. The loop's invariant: the octets of out before to + i are those that were before `to`, and then i octets of m.
-- Assumes nothing.
use Prim.Native.Nat.{◌+◌}
use mathlib.Core.Path.{◌≡◌}
use mathlib.Core.List.{◌++◌}
use lib.ListN.{length, take, drop}
use Rattle.compression.proofs.copy.Given as goal

abbrev pub invariant-loop-i : goal.invariant-loop-i
invariant-loop-i l = (length l.out ≡ 255) × (take (l.to + l.i) l.out ≡ take l.to l.fn.out ++ take l.i (drop l.from l.m))
