-- `names::wire_name` meets its contract. The loop's invariant: the test is what is left of it from `at` on. Assumes nothing.
use Prim.Native.Nat.{◌-◌, ◌≤◌, ◌<◌}
use mathlib.Core.Path.{◌≡◌}
use lib.ListN.{length}
use Rattle.names.proofs.Wire.{left}
use Rattle.model.specs.Names.{wire_name}
use Rattle.names.proofs.wire_name.Given as goal

abbrev pub invariant-loop-at : goal.invariant-loop-at
invariant-loop-at l = (l.at ≤ length l.s) × (l.at < 255) × (wire_name l.s ≡ left l.s l.at)

abbrev pub decreases-loop-at : goal.decreases-loop-at
decreases-loop-at l = length l.s - l.at
