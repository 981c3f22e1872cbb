-- `inquiries::key_name` meets its contract. Assumes nothing.
use mathlib.Core.Path.{sym}
use native.Mathlib.Omega.{arith}
use Rattle.store.specs.Layout.{table_of}
use Rattle.outcomes.proofs.Laws.{rules_layout}
use Rattle.inquiries.proofs.Laws.{no_row, above_nought, its_row, row_in, kept, spelt_broken, spelt_nopair, spelt_passes, spells_refused, spells_as}
use Rattle.inquiries.proofs.key_name.Goals as goal

pub returns-then-not-rules_ok : goal.returns-then-not-rules_ok
returns-then-not-rules_ok c =
    let a = c.args in
    let t = table_of a.words.now a.suffixes.now in
    spells_refused a.out.now 1 (spelt_broken t _ c.rules_ok.ensures c.if-not-rules_ok.true _ _ _) c.not_spelt.ensures

pub is_enrolled-requires : goal.is_enrolled-requires
is_enrolled-requires c = rules_layout _ _ (kept _ _ c.rules_ok.ensures c.if-not-rules_ok.false)

pub returns-then-not-is_enrolled : goal.returns-then-not-is_enrolled
returns-then-not-is_enrolled c =
    let a = c.args in
    let t = table_of a.words.now a.suffixes.now in
    spells_refused a.out.now 9 (spelt_nopair t _ c.rules_ok.ensures c.if-not-rules_ok.false _ (no_row t _ _ c.is_enrolled.ensures c.if-not-is_enrolled.true) _ _) c.not_spelt-then-not-is_enrolled.ensures

pub overflow_sub-pair : goal.overflow_sub-pair
overflow_sub-pair c =
    let a = c.args in
    let t = table_of a.words.now a.suffixes.now in
    omega (arith, above_nought t a.pair _ c.is_enrolled.ensures c.if-not-is_enrolled.false)

pub key_name_in-requires : goal.key_name_in-requires
key_name_in-requires c =
    let a = c.args in
    let t = table_of a.words.now a.suffixes.now in
    (kept t _ c.rules_ok.ensures c.if-not-rules_ok.false, row_in t _ _ c.is_enrolled.ensures c.if-not-is_enrolled.false)

pub returns : goal.returns
returns c =
    let a = c.args in
    let t = table_of a.words.now a.suffixes.now in
    spells_as (sym (spelt_passes t _ c.rules_ok.ensures c.if-not-rules_ok.false _ _ (its_row t _ _ c.is_enrolled.ensures c.if-not-is_enrolled.false) _ _)) c.key_name_in.ensures
