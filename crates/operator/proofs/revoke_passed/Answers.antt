-- `operator::revoke_passed` meets its contract. Assumes nothing.
use mathlib.Core.Path.{refl}
use native.Mathlib.Omega.{arith}
use Rattle.store.specs.Layout.{table_of}
use Rattle.outcomes.proofs.Laws.{own_none}
use Rattle.operator.proofs.Laws.{revoke_none, no_row, above_nought, its_row, row_in}
use Rattle.operator.proofs.revoke_passed.Goals as goal

pub returns-then-not-is_enrolled : goal.returns-then-not-is_enrolled
returns-then-not-is_enrolled c =
    let t = table_of c.args.words.now c.args.suffixes.now in
    (revoke_none _ _ _ _ _ (no_row t _ _ c.is_enrolled.ensures c.if-not-is_enrolled.true) refl, own_none _ _)

pub overflow_sub-pair : goal.overflow_sub-pair
overflow_sub-pair c =
    let t = table_of c.args.words.now c.args.suffixes.now in
    omega (arith, above_nought t c.args.pair _ c.is_enrolled.ensures c.if-not-is_enrolled.false)

pub revoke_row-requires : goal.revoke_row-requires
revoke_row-requires c =
    let t = table_of c.args.words.now c.args.suffixes.now in
    (c.requires, row_in t _ _ c.is_enrolled.ensures c.if-not-is_enrolled.false)

pub returns : goal.returns
returns c =
    let t = table_of c.args.words.now c.args.suffixes.now in
    let r = c.revoke_row.ensures in
    (r.1 _ (its_row t _ _ c.is_enrolled.ensures c.if-not-is_enrolled.false), r.0)
