-- `batches::items_inside` meets its contract. The loop's invariant: all items lie inside where those from i on do. Assumes nothing.
use Prim.Native.Nat.{ℕ}
use mathlib.Core.Path.{◌≡◌}
use mathlib.Core.List.{List}
use lib.ListN.{length}
use Rattle.model.specs.Batches.{items_inside}
use Rattle.batches.specs.Batched.{items_in}
use Rattle.batches.proofs.Laws.{rest_of}
use Rattle.batches.proofs.items_inside.Given as goal

abbrev pub invariant-loop-i : goal.invariant-loop-i
invariant-loop-i l = (octets : List ℕ) → length octets ≡ l.n → items_inside octets (items_in l.items l.count) ≡ items_inside octets (rest_of l.items l.count l.i)
