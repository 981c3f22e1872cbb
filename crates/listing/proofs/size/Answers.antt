-- `listing::size` meets its contract. The loop's invariant: the lines of the clock and of the first i rows have this length together, at most 541 octets a row.
-- Assumes nothing.
use mathlib.Core.Path.{ap}
use native.Mathlib.Omega.{arith}
use lib.ListN.{length, length-append}
use Rattle.model.specs.Listing.{rows_lines}
use Rattle.listing.proofs.Laws.{layout, long, few, count, short, next_row, all_rows, whole_length}
use Rattle.listing.proofs.size.Goals as goal

pub bounds-words-0 : goal.bounds-words-0
bounds-words-0 c =
    let w = c.args.words.now in
    let s = c.args.suffixes.now in
    omega (arith, long w s c.requires)

pub bounds-words-2 : goal.bounds-words-2
bounds-words-2 c =
    let w = c.args.words.now in
    let s = c.args.suffixes.now in
    omega (arith, long w s c.requires)

pub bounds-words-1 : goal.bounds-words-1
bounds-words-1 c =
    let w = c.args.words.now in
    let s = c.args.suffixes.now in
    omega (arith, long w s c.requires)

pub loop-i-init : goal.loop-i-init
unfolding rows_lines
loop-i-init c = (omega arith, omega arith)

pub pair_of-p-requires : goal.pair_of-p-requires
pair_of-p-requires c =
    let w = c.args.words.now in
    let s = c.args.suffixes.now in
    (layout w s c.requires, omega (arith, count w s c.requires))

pub suffix_of-suffix-requires : goal.suffix_of-suffix-requires
suffix_of-suffix-requires c =
    let w = c.args.words.now in
    let s = c.args.suffixes.now in
    (layout w s c.requires, omega (arith, count w s c.requires))

pub row_size-total-requires : goal.row_size-total-requires
row_size-total-requires c =
    let w = c.args.words.now in
    let s = c.args.suffixes.now in
    short w s c.requires c.loop-i.i (omega arith) c.suffix_of-suffix.ensures

pub overflow_add-total : goal.overflow_add-total
overflow_add-total c =
    let w = c.args.words.now in
    let s = c.args.suffixes.now in
    record { fits = omega (arith, few w s c.requires) }

pub loop-i-preserved : goal.loop-i-preserved
loop-i-preserved c =
    let w = c.args.words.now in
    let s = c.args.suffixes.now in
    let k = c.loop-i in
    let e = ap length (next_row w s c.requires k.i (omega arith) c.suffix_of-suffix.ensures c.pair_of-p.ensures) in
    (omega arith, omega (arith, rw length-append at e))

pub returns : goal.returns
returns c =
    let w = c.args.words.now in
    let s = c.args.suffixes.now in
    let k = c.loop-i in
    omega (arith, whole_length w s c.requires, ap length (all_rows w s c.requires k.i (omega arith)))
