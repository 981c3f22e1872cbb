-- `listing::list_into` meets its contract. The loop's invariant: the first i rows stand after the clock's line.
-- Assumes nothing.
use Prim.Native.Nat.{◌+◌}
use mathlib.Core.Path.{refl, ap}
use native.Mathlib.Omega.{arith}
use lib.ListN.{length, length-append}
use Rattle.model.specs.Listing.{rows_lines}
use Rattle.octets.proofs.Laws.{then, wrote_as}
use Rattle.octets.proofs.Back.{wrote_none}
use Rattle.store.specs.Layout.{table_of}
use Rattle.listing.proofs.Laws.{rows_within, layout, long, count, short, next_row, all_rows, whole, whole_length}
use Rattle.listing.proofs.list_into.Goals as goal

pub bounds-words-0 : goal.bounds-words-0
bounds-words-0 c =
    let w = c.args.words.now in
    let s = c.args.suffixes.now in
    omega (arith, long w s c.requires.0)

pub bounds-words-2 : goal.bounds-words-2
bounds-words-2 c =
    let w = c.args.words.now in
    let s = c.args.suffixes.now in
    omega (arith, long w s c.requires.0)

pub clock_into-next-requires : goal.clock_into-next-requires
clock_into-next-requires c =
    let w = c.args.words.now in
    let s = c.args.suffixes.now in
    omega (arith, whole_length w s c.requires.0)

pub bounds-words-1 : goal.bounds-words-1
bounds-words-1 c =
    let w = c.args.words.now in
    let s = c.args.suffixes.now in
    omega (arith, long w s c.requires.0)

pub loop-i-init : goal.loop-i-init
unfolding rows_lines
loop-i-init c = (refl, wrote_none _ _ (omega arith))

pub pair_of-p-requires : goal.pair_of-p-requires
pair_of-p-requires c =
    let w = c.args.words.now in
    let s = c.args.suffixes.now in
    (layout w s c.requires.0, omega (arith, count w s c.requires.0))

pub suffix_of-suffix-requires : goal.suffix_of-suffix-requires
suffix_of-suffix-requires c =
    let w = c.args.words.now in
    let s = c.args.suffixes.now in
    (layout w s c.requires.0, omega (arith, count w s c.requires.0))

pub row_into-next-requires : goal.row_into-next-requires
row_into-next-requires c =
    let w = c.args.words.now in
    let s = c.args.suffixes.now in
    let k = c.loop-i in
    let e = ap length (next_row w s c.requires.0 k.i (omega arith) c.suffix_of-suffix.ensures c.pair_of-p.ensures) in
    (omega (arith, rw length-append at e, rows_within (table_of w s).rows (k.i + 1), whole_length w s c.requires.0), short w s c.requires.0 k.i (omega arith) c.suffix_of-suffix.ensures)

pub loop-i-preserved : goal.loop-i-preserved
loop-i-preserved c =
    let w = c.args.words.now in
    let s = c.args.suffixes.now in
    let k = c.loop-i in
    let e = next_row w s c.requires.0 k.i (omega arith) c.suffix_of-suffix.ensures c.pair_of-p.ensures in
    (omega arith, wrote_as e (then k.invariant.1 c.row_into-next.ensures))

pub returns : goal.returns
returns c =
    let w = c.args.words.now in
    let s = c.args.suffixes.now in
    let k = c.loop-i in
    wrote_as (whole w s c.requires.0) (then c.clock_into-next.ensures (wrote_as (all_rows w s c.requires.0 k.i (omega arith)) k.invariant.1))
