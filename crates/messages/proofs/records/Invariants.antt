-- `messages::records` meets its contract. Assumes nothing.
use Prim.Native.Nat.{◌-◌}
use mathlib.Core.Path.{◌≡◌}
use Rattle.messages.specs.Scan.{seen_of, scan_from}
use Rattle.messages.proofs.records.Given as goal

abbrev pub invariant-loop : goal.invariant-loop
invariant-loop l = scan_from l.m l.section l.count (seen_of l.initial.notes) l.at ≡ scan_from l.m l.section (l.count - l.counter) (seen_of l.notes) l.place
