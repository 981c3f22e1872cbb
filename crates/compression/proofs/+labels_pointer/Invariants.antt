-- The label walker and the pointer follower call one another. The measure is made from the place of the run of labels, below which a pointer leads, and
-- the octets left of 255. In both loops the reading of the whole name is the reading from here. Assumes nothing.
use Prim.Native.Nat.{◌+◌, ◌-◌, ◌*◌, ◌<◌, ◌≤◌}
use mathlib.Core.Path.{◌≡◌}
use lib.ListN.{length, take}
use Rattle.model.specs.Names.{ends_at, read_on}
use Rattle.compression.proofs.+labels_pointer.Given as goal

abbrev pub decreases-labels : goal.decreases-labels
decreases-labels l = 2 * (l.start + (255 - l.used)) + 1

abbrev pub decreases-pointer : goal.decreases-pointer
decreases-pointer l = 2 * (l.target + (255 - l.used)) + 2

abbrev pub invariant-labels-loop-failed : goal.invariant-labels-loop-failed
invariant-labels-loop-failed l =
    (l.used ≤ l.len) × (l.len < 255) × (length l.out ≡ 255) × (read_on l.m l.start l.at (take l.used l.initial.out) ≡ read_on l.m l.start l.place (take l.len l.out))

abbrev pub decreases-labels-loop-failed : goal.decreases-labels-loop-failed
decreases-labels-loop-failed l = 255 - l.len

abbrev pub invariant-pointer-loop-failed : goal.invariant-pointer-loop-failed
invariant-pointer-loop-failed l =
    (l.to ≤ l.target) × (l.out ≡ l.initial.out) × (ends_at l.next (read_on l.m l.target l.target (take l.used l.initial.out)) ≡ ends_at l.next (read_on l.m l.to l.to (take l.used l.out)))

abbrev pub decreases-pointer-loop-failed : goal.decreases-pointer-loop-failed
decreases-pointer-loop-failed l = l.to
