-- `compression::follow` meets its contract: whatever the octets before are, the whole name is what is left from here. Assumes nothing.
use Prim.Native.Nat.{ℕ, ◌+◌, ◌-◌, ◌<◌}
use mathlib.Core.Path.{◌≡◌}
use mathlib.Core.List.{List}
use lib.ListN.{length}
use Rattle.model.specs.Names.{ends_at, read_on}
use Rattle.compression.proofs.Skipping.{Going}
use Rattle.compression.proofs.follow.Given as goal

abbrev pub invariant-loop-failed : goal.invariant-loop-failed
invariant-loop-failed l =
    (l.len < 255) × ((before : List ℕ) → length before ≡ l.used → Going l.m (ends_at l.next) (ends_at l.next (read_on l.m l.target l.target before)) l.start l.place l.len)

abbrev pub decreases-loop-failed : goal.decreases-loop-failed
decreases-loop-failed l = l.start + (255 - l.len)
