-- `operator::enrol_row` meets its contract. Assumes nothing.
use native.Mathlib.Omega.{arith}
use Rattle.store.proofs.Laid.{laid}
use Rattle.operator.proofs.Laws.{row_added}
use Rattle.operator.proofs.enrol_row.Goals as goal

pub bounds-words-1 : goal.bounds-words-1
bounds-words-1 c =
    let w = c.args.words.now in
    let s = c.args.suffixes.now in
    omega (arith, (laid w s c.requires.rule).words)

pub bounds-words-2 : goal.bounds-words-2
bounds-words-2 c =
    let w = c.args.words.now in
    let s = c.args.suffixes.now in
    omega (arith, (laid w s c.requires.rule).words)

pub returns : goal.returns
returns c =
    let w = c.args.words.now in
    let s = c.args.suffixes.now in
    row_added w s c.requires.rule c.insert.ensures c.finished.ensures
