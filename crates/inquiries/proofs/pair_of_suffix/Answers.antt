-- `inquiries::pair_of_suffix` meets its contract. Assumes nothing.
use mathlib.Core.Path.{sym, ◌∙◌}
use Rattle.outcomes.proofs.Laws.{rules_layout}
use Rattle.inquiries.proofs.Laws.{kept, suffix_broken, suffix_passes}
use Rattle.inquiries.proofs.pair_of_suffix.Goals as goal

pub returns-then-not-rules_ok : goal.returns-then-not-rules_ok
returns-then-not-rules_ok c = c.not_found.ensures ∙ sym (suffix_broken _ _ c.rules_ok.ensures c.if-not-rules_ok.true _)

pub find_pair-requires : goal.find_pair-requires
find_pair-requires c = rules_layout _ _ (kept _ _ c.rules_ok.ensures c.if-not-rules_ok.false)

pub returns : goal.returns
returns c = c.find_pair.ensures ∙ sym (suffix_passes _ _ c.rules_ok.ensures c.if-not-rules_ok.false _)
