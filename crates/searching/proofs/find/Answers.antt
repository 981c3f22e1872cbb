-- `searching::find` meets its contract. The loop's invariant: the search is narrowed to the places from `low` up to `high`. Assumes nothing.
use mathlib.Core.Path.{refl}
use native.Mathlib.Omega.{arith}
use Rattle.store.proofs.Laid.{laid}
use Rattle.searching.proofs.Narrowing.{narrow_first, one_left, inside, narrow_up, narrow_down, sought_row, sought_missing, ordered_as}
use Rattle.searching.proofs.find.Goals as goal

pub bounds-words-1 : goal.bounds-words-1
bounds-words-1 c =
    let w = c.args.words.now in
    let s = c.args.suffixes.now in
    let l = laid w s c.requires in
    omega (arith, l.words)

pub loop-low-init : goal.loop-low-init
loop-low-init c =
    let w = c.args.words.now in
    let s = c.args.suffixes.now in
    let l = laid w s c.requires in
    narrow_first l c.args.name.now

pub overflow_sub-left : goal.overflow_sub-left
overflow_sub-left c =
    let w = c.args.words.now in
    let s = c.args.suffixes.now in
    let l = laid w s c.requires in
    one_left l _ c.loop-low.invariant c.loop-low-test.true

pub overflow_add-middle : goal.overflow_add-middle
overflow_add-middle c =
    let w = c.args.words.now in
    let s = c.args.suffixes.now in
    let l = laid w s c.requires in
    omega (arith, l.few, c.loop-low.invariant.within)

pub suffix_at-requires : goal.suffix_at-requires
suffix_at-requires c =
    let w = c.args.words.now in
    let s = c.args.suffixes.now in
    let l = laid w s c.requires in
    let i = inside l _ c.loop-low.invariant c.loop-low-test.true _ refl in
    (l.words, l.octets, omega (arith, l.few), (l.at _ i).short)

pub overflow_add-low : goal.overflow_add-low
overflow_add-low c =
    let w = c.args.words.now in
    let s = c.args.suffixes.now in
    let l = laid w s c.requires in
    omega (arith, l.few, c.loop-low.invariant.within)

pub loop-low-preserved-in-Less : goal.loop-low-preserved-in-Less
loop-low-preserved-in-Less c =
    let w = c.args.words.now in
    let s = c.args.suffixes.now in
    let l = laid w s c.requires in
    let n = c.args.name.now in
    let o = ordered_as n c.order.ensures c.suffix_at.ensures c.in-Less.is in
    narrow_up l n c.loop-low.invariant c.loop-low-test.true _ refl o

pub row_at-requires : goal.row_at-requires
row_at-requires c =
    let w = c.args.words.now in
    let s = c.args.suffixes.now in
    let l = laid w s c.requires in
    let i = inside l _ c.loop-low.invariant c.loop-low-test.true _ refl in
    (l.words, omega (arith, l.few))

pub returns-in-Equal : goal.returns-in-Equal
returns-in-Equal c =
    let w = c.args.words.now in
    let s = c.args.suffixes.now in
    let l = laid w s c.requires in
    let n = c.args.name.now in
    let o = ordered_as n c.order.ensures c.suffix_at.ensures c.in-Equal.is in
    sought_row l n c.loop-low.invariant c.loop-low-test.true _ refl o c.row_at.ensures

pub loop-low-preserved : goal.loop-low-preserved
loop-low-preserved c =
    let w = c.args.words.now in
    let s = c.args.suffixes.now in
    let l = laid w s c.requires in
    let n = c.args.name.now in
    let o = ordered_as n c.order.ensures c.suffix_at.ensures c.in-Greater.is in
    narrow_down l n c.loop-low.invariant c.loop-low-test.true _ refl o

pub returns : goal.returns
returns c =
    let w = c.args.words.now in
    let s = c.args.suffixes.now in
    let l = laid w s c.requires in
    let n = c.args.name.now in
    sought_missing l n c.loop-low.invariant c.loop-low-test.false
