-- `listing::list_into` meets its contract. The loop's invariant: the first i rows stand after the clock's line.
-- Assumes nothing.
use mathlib.Core.Path.{◌≡◌}
use lib.ListN.{length, take}
use Rattle.model.specs.Listing.{rows_lines}
use Rattle.octets.specs.Wrote.{Wrote}
use Rattle.store.specs.Layout.{table_of}
use Rattle.listing.proofs.list_into.Given as goal

abbrev pub invariant-loop-i : goal.invariant-loop-i
invariant-loop-i l =
    (length l.buf ≡ length l.initial.buf) × Wrote (rows_lines (take l.i (table_of l.words l.suffixes).rows)) l.initial.next l.initial.buf l.buf l.next
