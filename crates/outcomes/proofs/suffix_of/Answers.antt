-- `outcomes::suffix_of` meets its contract. Assumes nothing.
use mathlib.Core.Path.{sym, ap, ◌∙◌}
use Rattle.store.specs.Layout.{suffix_in}
use Rattle.store.proofs.Laid.{laid}
use Rattle.outcomes.proofs.Laws.{row_low, row_few, place_few, shown_suffix}
use Rattle.outcomes.proofs.suffix_of.Goals as goal

pub place_of-requires : goal.place_of-requires
place_of-requires c =
    let w = c.args.words.now in
    let s = c.args.suffixes.now in
    let ok = c.requires.0 in
    ((laid w s ok).words, row_few w s ok _ c.requires.1)

pub suffix_at-requires : goal.suffix_at-requires
suffix_at-requires c =
    let w = c.args.words.now in
    let s = c.args.suffixes.now in
    let ok = c.requires.0 in
    let l = laid w s ok in
    let q = row_low w s ok _ c.requires.1 in
    (l.words, l.octets, rw c.place_of.ensures (place_few w s ok _ c.requires.1), rw c.place_of.ensures (l.at _ (l.at _ q).lands).short)

pub returns : goal.returns
returns c =
    let w = c.args.words.now in
    let s = c.args.suffixes.now in
    c.suffix_at.ensures ∙ ap (suffix_in w s) c.place_of.ensures ∙ sym (shown_suffix w s c.requires.0 _ c.requires.1)
