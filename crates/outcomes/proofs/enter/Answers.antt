-- `outcomes::enter` meets its contract. Assumes nothing.
use mathlib.Core.Path.{sym, ◌∙◌}
use native.Mathlib.Omega.{arith}
use Rattle.outcomes.proofs.Laws.{first_table, enter_refused}
use Rattle.outcomes.proofs.enter.Goals as goal

pub returns-then-not-rules_ok : goal.returns-then-not-rules_ok
returns-then-not-rules_ok c = enter_refused _ _ _ _ (first_table _ _ _ _ c.rules_ok.ensures c.if-not-rules_ok.true) (λ z. omega (arith, z))

pub enter_ruled-requires : goal.enter_ruled-requires
enter_ruled-requires c = sym c.rules_ok.ensures ∙ c.if-not-rules_ok.false

pub returns : goal.returns
returns c = c.enter_ruled.ensures
