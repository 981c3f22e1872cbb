-- `outcomes::settle` meets its contract. Assumes nothing.
use native.Mathlib.Omega.{arith}
use Rattle.outcomes.proofs.Laws.{shown_words, row_few, place_few, settles}
use Rattle.outcomes.proofs.settle.Goals as goal

pub place_of-place-requires : goal.place_of-place-requires
place_of-place-requires c =
    let w = c.args.words.now in
    let s = c.args.suffixes.now in
    (shown_words w s c.requires.0, row_few w s c.requires.0 _ c.requires.1)

pub store_pair-requires : goal.store_pair-requires
store_pair-requires c =
    let w = c.args.words.now in
    let s = c.args.suffixes.now in
    (shown_words w s c.requires.0, rw c.place_of-place.ensures (place_few w s c.requires.0 _ c.requires.1))

pub overflow_add-row : goal.overflow_add-row
overflow_add-row c =
    let w = c.args.words.now in
    let s = c.args.suffixes.now in
    omega (arith, row_few w s c.requires.0 _ c.requires.1)

pub returns : goal.returns
returns c =
    let w = c.args.words.now in
    let s = c.args.suffixes.now in
    settles w s c.requires.0 _ c.requires.1 c.place_of-place.ensures _ c.store_pair.ensures _ c.finished.ensures
