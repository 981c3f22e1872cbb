-- `matching::first_label` meets its contract: the name is what is read from here. Assumes nothing.
use mathlib.Core.List.{[]}
use Rattle.model.specs.Names.{read_on, read_name}
use Rattle.matching.specs.Compare.{Alike}
use Rattle.matching.proofs.first_label.Given as goal

abbrev pub invariant-loop-n : goal.invariant-loop-n
invariant-loop-n l = Alike (read_name l.m l.at) (read_on l.m l.place l.place [])

abbrev pub decreases-loop-n : goal.decreases-loop-n
decreases-loop-n l = l.place
