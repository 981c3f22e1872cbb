-- `ordering::order` meets its contract. The loop's invariant: the names are ordered as what is left of them. Assumes nothing.
use Prim.Native.Nat.{◌≤◌}
use mathlib.Core.Path.{◌≡◌}
use lib.ListN.{length, drop}
use Rattle.ordering.specs.Order.{order_of}
use Rattle.ordering.proofs.order.Given as goal

abbrev pub invariant-loop-i : goal.invariant-loop-i
invariant-loop-i l = (l.i ≤ length l.a) × (l.i ≤ length l.b) × (order_of l.a l.b ≡ order_of (drop l.i l.a) (drop l.i l.b))
