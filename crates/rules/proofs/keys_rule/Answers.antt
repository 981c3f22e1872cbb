-- `rules::keys_rule` meets its contract. Assumes nothing.
use Rattle.rules.proofs.Laws.{both_keys}
use Rattle.model.specs.Tables.{keys_rule}
use borrow.Author.Rules.{rules}
use Rattle.rules.proofs.keys_rule.Goals as goal

pub returns-in-Empty : goal.returns-in-Empty
unfolding keys_rule
returns-in-Empty c = search rules

pub returns-in-Adopted : goal.returns-in-Adopted
unfolding keys_rule
returns-in-Adopted c = simp (c.key_rule.ensures, c.in-Adopted.is)

pub returns-in-Renewing : goal.returns-in-Renewing
returns-in-Renewing c =
    rw c.in-Renewing.is (both_keys _ _ _ _ _ c.key_rule-in-Renewing.ensures c.key_rule-in-Renewing-2.ensures)
