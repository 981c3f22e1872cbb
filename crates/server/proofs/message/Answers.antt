-- `server::message` meets its contract. Assumes nothing.
use mathlib.Core.Path.{refl, sym, ◌∙◌}
use native.Mathlib.Omega.{arith}
use Rattle.outcomes.proofs.Laws.{first_table, enter_refused}
use mathlib.Core.Path.{refl}
use Rattle.server.proofs.Laws.{whole_refused}
use Rattle.server.proofs.message.Goals as goal

pub returns-then-not-rules_ok : goal.returns-then-not-rules_ok
returns-then-not-rules_ok c =
    whole_refused _ _ _ _ _ (enter_refused _ _ _ _ (first_table _ _ _ _ c.rules_ok.ensures c.if-not-rules_ok.true) (λ z. omega (arith, z))) _ _ refl _ (λ z. omega (arith, z)) c.answered.ensures

pub message_ruled-requires : goal.message_ruled-requires
message_ruled-requires c =
    sym c.rules_ok.ensures ∙ c.if-not-rules_ok.false

pub returns : goal.returns
returns c = c.message_ruled.ensures
