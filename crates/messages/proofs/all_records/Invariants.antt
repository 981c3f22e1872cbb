-- `messages::all_records` meets its contract. Assumes nothing.
use Prim.Native.Nat.{◌-◌}
use mathlib.Core.Path.{◌≡◌}
use Rattle.messages.specs.Scan.{kept_of, seen_of, scan_records, LastRead}
use Rattle.messages.proofs.Loops.{scan_last}
use Rattle.messages.proofs.all_records.Given as goal

abbrev pub invariant-loop-passed : goal.invariant-loop-passed
invariant-loop-passed l = record {
  says : scan_records l.m l.at ≡ scan_last l.m l.two l.three (l.all - l.passed) (seen_of l.notes) l.place;
  lasts : LastRead l.m (kept_of l.notes.sign) l.last;
}
