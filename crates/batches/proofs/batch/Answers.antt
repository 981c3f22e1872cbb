-- `batches::batch` meets its contract. Assumes nothing.
use mathlib.Core.Path.{sym, ◌∙◌}
use Rattle.batches.proofs.Laws.{shows_table, shows_batch, shows_turn}
use borrow.Author.Rules.{rules}
use Rattle.batches.proofs.batch.Goals as goal

pub returns-then-not-rules_ok : goal.returns-then-not-rules_ok
returns-then-not-rules_ok c = shows_table _ _ _ _ _ _ (sym c.rules_ok.ensures ∙ c.if-not-rules_ok.true)

pub returns-then-not-batch_ok : goal.returns-then-not-batch_ok
returns-then-not-batch_ok c =
    let ruled = sym c.rules_ok.ensures ∙ c.if-not-rules_ok.false in
    shows_batch _ _ _ _ _ _ ruled (sym c.batch_ok.ensures ∙ c.if-not-batch_ok.true)

pub in_turn-requires : goal.in_turn-requires
in_turn-requires c =
    let ruled = sym c.rules_ok.ensures ∙ c.if-not-rules_ok.false in
    (ruled, search rules, search rules, sym c.batch_ok.ensures ∙ c.if-not-batch_ok.false)

pub returns : goal.returns
returns c =
    let ruled = sym c.rules_ok.ensures ∙ c.if-not-rules_ok.false in
    shows_turn _ _ _ _ _ _ ruled (sym c.batch_ok.ensures ∙ c.if-not-batch_ok.false) c.in_turn.ensures
