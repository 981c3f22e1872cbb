-- `checking::layout_ok` meets its contract. The loop's invariant: the rule is what is left of it from the place q on, and no suffix before q leads past its octets. Assumes nothing.
use Prim.Native.Nat.{◌-◌}
use mathlib.Core.Path.{◌≡◌}
use Rattle.store.specs.Layout.{count_of, place_rule, all_from, layout_rule}
use Rattle.checking.specs.Passed.{Passed}
use Rattle.checking.proofs.layout_ok.Given as goal

abbrev pub invariant-loop-q : goal.invariant-loop-q
invariant-loop-q l =
    Passed l.words l.suffixes l.q
    × (layout_rule l.words l.suffixes ≡ all_from (place_rule l.words l.suffixes) (count_of l.words - l.q) l.q)
