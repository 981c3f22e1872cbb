-- `listing::size` meets its contract. The loop's invariant: the lines of the clock and of the first i rows have this length together, at most 541 octets a row.
-- Assumes nothing.
use Prim.Native.Nat.{◌+◌, ◌*◌, ◌≤◌}
use mathlib.Core.Path.{◌≡◌}
use lib.ListN.{length, take}
use Rattle.model.specs.Listing.{rows_lines}
use Rattle.store.specs.Layout.{table_of}
use Rattle.listing.proofs.size.Given as goal

abbrev pub invariant-loop-i : goal.invariant-loop-i
invariant-loop-i l =
    (l.total ≤ l.initial.total + 541 * l.i) × (l.total ≡ l.initial.total + length (rows_lines (take l.i (table_of l.words l.suffixes).rows)))
