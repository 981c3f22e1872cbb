-- `inserting::insert` meets its contract. Assumes nothing.
use mathlib.Core.Path.{◌∙◌}
use native.Mathlib.Omega.{arith}
use Rattle.store.proofs.Laid.{laid}
use Rattle.inserting.proofs.Inserting.{inserted}
use Rattle.inserting.proofs.insert.Goals as goal

pub bounds-words-1 : goal.bounds-words-1
bounds-words-1 c =
    let r = c.requires in
    let l = laid c.args.words.now c.args.suffixes.now r.rule in
    omega (arith, l.words)

pub letter_place-requires : goal.letter_place-requires
letter_place-requires c =
    let r = c.requires in
    let l = laid c.args.words.now c.args.suffixes.now r.rule in
    (l.octets, r.gap.within, r.room, r.short)

pub open_place-requires : goal.open_place-requires
open_place-requires c =
    let r = c.requires in
    let l = laid c.args.words.now c.args.suffixes.now r.rule in
    (l.words, r.room, r.gap.within, λ i k. omega (arith, (l.at i k).lands, r.room))

pub fill_place-requires : goal.fill_place-requires
fill_place-requires c =
    let r = c.requires in
    let l = laid c.args.words.now c.args.suffixes.now r.rule in
    let o = c.open_place.ensures in
    (o.size ∙ l.words, omega (arith, o.head 1 (omega arith), r.room), omega (arith, r.gap.within, r.room))

pub returns : goal.returns
returns c =
    inserted _ _ _ c.args.words.now c.args.suffixes.now _ _ _ c.requires c.letter_place.ensures c.open_place.ensures c.fill_place.ensures
