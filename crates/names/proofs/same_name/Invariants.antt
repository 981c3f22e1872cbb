-- `names::same_name` meets its contract. The loop's invariant: the names are the same if what is left of them is. Assumes nothing.
use mathlib.Core.Path.{◌≡◌}
use lib.ListN.{drop}
use Rattle.model.specs.Names.{same_name}
use Rattle.names.proofs.same_name.Given as goal

abbrev pub invariant-loop-k : goal.invariant-loop-k
invariant-loop-k l = same_name l.a l.b ≡ same_name (drop l.k l.a) (drop l.k l.b)
