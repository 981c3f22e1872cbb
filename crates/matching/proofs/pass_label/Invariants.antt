-- `matching::pass_label` meets its contract: the name is what is read on from here. Assumes nothing.
use Prim.Native.Nat.{ℕ}
use mathlib.Core.Path.{◌≡◌}
use mathlib.Core.List.{List}
use lib.ListN.{length}
use Rattle.model.specs.Names.{read_on}
use Rattle.matching.specs.Compare.{Alike}
use Rattle.matching.proofs.pass_label.Given as goal

abbrev pub invariant-loop-n : goal.invariant-loop-n
invariant-loop-n l = (before : List ℕ) → length before ≡ l.used → Alike (read_on l.m l.first l.at before) (read_on l.m l.start l.place before)

abbrev pub decreases-loop-n : goal.decreases-loop-n
decreases-loop-n l = l.start
