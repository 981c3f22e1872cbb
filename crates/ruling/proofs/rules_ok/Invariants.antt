-- `ruling::rules_ok` meets its contract. The loop's invariant: the rules are what is left of them from the place q on. Assumes nothing.
use Prim.Native.Nat.{◌-◌}
use mathlib.Core.Path.{◌≡◌}
use Rattle.model.specs.Tables.{table_rules}
use Rattle.store.specs.Layout.{clock_of, count_of, all_from, table_of}
use Rattle.ruling.specs.Rules.{place_fair}
use Rattle.ruling.proofs.rules_ok.Given as goal

abbrev pub invariant-loop-q : goal.invariant-loop-q
invariant-loop-q l =
    table_rules (table_of l.words l.suffixes) ≡ all_from (place_fair l.words l.suffixes (clock_of l.words)) (count_of l.words - l.q) l.q
