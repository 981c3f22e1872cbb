-- `comparing::tkey_data` meets its contract. Assumes nothing.
use borrow.Author.Rules.{rules}
use Rattle.comparing.proofs.Laws.{name_bad, name_ends, name_is_lem}
use Rattle.comparing.proofs.DataLaws.{tkey_cut, tkey_named_lem, tkey_other_lem, tkey_on}
use Rattle.comparing.proofs.tkey_data.Goals as goal

pub tkey_middle-requires : goal.tkey_middle-requires
tkey_middle-requires c =
    (name_ends _ _ _ _ _ c.skip_plain.ensures c.in-Ok.is, search rules, search rules)

pub returns-then-same_names_at : goal.returns-then-same_names_at
returns-then-same_names_at c =
    tkey_on _ _ _ _ _ (name_is_lem _ _ _ _ _ c.skip_plain.ensures c.in-Ok.is) _ c.same_names_at.ensures
    c.if-same_names_at.true c.tkey_middle.result c.tkey_middle.ensures

pub returns-in-Err-skip_plain : goal.returns-in-Err-skip_plain
returns-in-Err-skip_plain c =
    tkey_cut _ _ _ _ _ (name_bad _ _ _ _ c.skip_plain.ensures c.in-Err.is)
    (name_bad _ _ _ _ c.skip_plain-in-Err.ensures c.in-Err-skip_plain.is) _ c.rest.ensures

pub returns-in-Ok-skip_plain : goal.returns-in-Ok-skip_plain
returns-in-Ok-skip_plain c =
    tkey_named_lem _ _ _ _ _ _ (name_bad _ _ _ _ c.skip_plain.ensures c.in-Err.is)
    (name_is_lem _ _ _ _ _ c.skip_plain-in-Err.ensures c.in-Ok-skip_plain.is)

pub returns-else-same_names_at : goal.returns-else-same_names_at
returns-else-same_names_at c =
    tkey_other_lem _ _ _ _ _ (name_is_lem _ _ _ _ _ c.skip_plain.ensures c.in-Ok.is) _ c.same_names_at.ensures
    c.if-same_names_at.false
