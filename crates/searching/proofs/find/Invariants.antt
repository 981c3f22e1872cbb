-- `searching::find` meets its contract. The loop's invariant: the search is narrowed to the places from `low` up to `high`. Assumes nothing.
use Prim.Native.Nat.{◌-◌}
use Rattle.searching.proofs.Narrowing.{Narrowed}
use Rattle.searching.proofs.find.Given as goal

abbrev pub invariant-loop-low : goal.invariant-loop-low
invariant-loop-low l = Narrowed l.words l.suffixes l.name l.low l.high l.left

abbrev pub decreases-loop-low : goal.decreases-loop-low
decreases-loop-low l = l.high - l.low
