-- `inquiries::test` meets its contract. Assumes nothing.
use mathlib.Core.Path.{sym, ◌∙◌}
use Rattle.inquiries.proofs.Laws.{test_broken, test_kept}
use Rattle.inquiries.proofs.test.Goals as goal

pub returns-then-rules_ok : goal.returns-then-rules_ok
returns-then-rules_ok c = sym (test_kept _ _ c.rules_ok.ensures c.if-rules_ok.true)

pub returns : goal.returns
returns c = c.number.ensures ∙ sym (test_broken _ _ c.rules_ok.ensures c.if-rules_ok.false)
