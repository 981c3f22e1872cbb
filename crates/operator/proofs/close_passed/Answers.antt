-- `operator::close_passed` meets its contract. Assumes nothing.
use mathlib.Core.Path.{refl}
use native.Mathlib.Omega.{arith}
use Rattle.store.specs.Layout.{table_of}
use Rattle.operator.proofs.Laws.{no_row, above_nought, its_row, row_in, row_counted, close_none, close_done}
use Rattle.operator.proofs.close_passed.Goals as goal

pub returns-then-not-is_enrolled : goal.returns-then-not-is_enrolled
returns-then-not-is_enrolled c =
    let t = table_of c.args.words.now c.args.suffixes.now in
    close_none _ _ _ _ (no_row t _ _ c.is_enrolled.ensures c.if-not-is_enrolled.true) refl

pub overflow_sub-pair : goal.overflow_sub-pair
overflow_sub-pair c =
    let t = table_of c.args.words.now c.args.suffixes.now in
    omega (arith, above_nought t c.args.pair _ c.is_enrolled.ensures c.if-not-is_enrolled.false)

pub remove-requires : goal.remove-requires
remove-requires c =
    let t = table_of c.args.words.now c.args.suffixes.now in
    (c.requires, row_counted _ _ c.requires (row_in t c.args.pair _ c.is_enrolled.ensures c.if-not-is_enrolled.false))

pub returns : goal.returns
returns c =
    let t = table_of c.args.words.now c.args.suffixes.now in
    close_done _ _ _ _ (its_row t _ _ c.is_enrolled.ensures c.if-not-is_enrolled.false) c.remove.ensures c.finished.ensures
