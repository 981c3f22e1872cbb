-- `inquiries::show_pair` meets its contract. Assumes nothing.
use mathlib.Core.Path.{sym, ◌∙◌}
use native.Mathlib.Omega.{arith}
use Rattle.store.specs.Layout.{table_of}
use Rattle.outcomes.proofs.Laws.{rules_layout}
use Rattle.inquiries.proofs.Laws.{no_row, above_nought, its_row, row_in, kept, shown_broken, shown_nopair, shown_done}
use Rattle.inquiries.proofs.show_pair.Goals as goal

pub returns-then-not-rules_ok : goal.returns-then-not-rules_ok
returns-then-not-rules_ok c = c.not_shown.ensures ∙ sym (shown_broken _ _ c.rules_ok.ensures c.if-not-rules_ok.true _)

pub is_enrolled-requires : goal.is_enrolled-requires
is_enrolled-requires c = rules_layout _ _ (kept _ _ c.rules_ok.ensures c.if-not-rules_ok.false)

pub returns-then-not-is_enrolled : goal.returns-then-not-is_enrolled
returns-then-not-is_enrolled c =
    let t = table_of c.args.words.now c.args.suffixes.now in
    c.not_shown-then-not-is_enrolled.ensures ∙ sym (shown_nopair t _ c.rules_ok.ensures c.if-not-rules_ok.false _ (no_row t _ _ c.is_enrolled.ensures c.if-not-is_enrolled.true))

pub overflow_sub-pair : goal.overflow_sub-pair
overflow_sub-pair c =
    let t = table_of c.args.words.now c.args.suffixes.now in
    omega (arith, above_nought t c.args.pair _ c.is_enrolled.ensures c.if-not-is_enrolled.false)

pub pair_of-p-requires : goal.pair_of-p-requires
pair_of-p-requires c =
    let t = table_of c.args.words.now c.args.suffixes.now in
    (rules_layout _ _ (kept t _ c.rules_ok.ensures c.if-not-rules_ok.false), row_in t _ _ c.is_enrolled.ensures c.if-not-is_enrolled.false)

pub returns : goal.returns
returns c =
    let t = table_of c.args.words.now c.args.suffixes.now in
    sym (shown_done t _ c.rules_ok.ensures c.if-not-rules_ok.false _ _ (its_row t _ _ c.is_enrolled.ensures c.if-not-is_enrolled.false) c.pair_of-p.ensures)
