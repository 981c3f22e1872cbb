use Rattle.model.specs.Loading.{unread_from}
use Rattle.model.specs.Lines.{lines_of}
use lib.ListN.{length, drop}
use lib.Dec.{eqb}
use Prim.Native.Nat.{◌≤◌, ◌-◌}
use mathlib.Core.Bool.{true}
use mathlib.Core.Path.{◌≡◌}
use Rattle.loading.proofs.unread_below.Given as goal

abbrev pub invariant-loop-at : goal.invariant-loop-at
invariant-loop-at l = (length l.suffix ≡ 128) × (l.at ≤ length l.text) × (2 ≤ l.n) × (l.n ≤ l.at) × (unread_from true 2 (lines_of (drop l.from l.text)) ≡ unread_from (eqb l.n 2) l.n (lines_of (drop l.at l.text)))

abbrev pub decreases-loop-at : goal.decreases-loop-at
decreases-loop-at l = length l.text - l.at
