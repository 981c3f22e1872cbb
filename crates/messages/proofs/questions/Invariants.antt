-- `messages::questions` meets its contract. Assumes nothing.
use Prim.Native.Nat.{◌-◌}
use mathlib.Core.Path.{◌≡◌}
use Rattle.messages.specs.declared.Asked.TheVariants.{Nothing}
use Rattle.messages.specs.Scan.{ask_from}
use Rattle.messages.proofs.questions.Given as goal

abbrev pub invariant-loop : goal.invariant-loop
invariant-loop l = ask_from l.m l.count Nothing l.at ≡ ask_from l.m (l.count - l.counter) l.asks l.place
