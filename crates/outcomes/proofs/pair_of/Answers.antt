-- `outcomes::pair_of` meets its contract. Assumes nothing.
use mathlib.Core.Path.{sym, ap, ◌∙◌}
use Rattle.store.specs.Layout.{pair_in}
use Rattle.outcomes.proofs.Laws.{shown_words, row_few, place_few, shown_pair}
use Rattle.outcomes.proofs.pair_of.Goals as goal

pub place_of-requires : goal.place_of-requires
place_of-requires c =
    let w = c.args.words.now in
    let s = c.args.suffixes.now in
    (shown_words w s c.requires.0, row_few w s c.requires.0 _ c.requires.1)

pub pair_at-requires : goal.pair_at-requires
pair_at-requires c =
    let w = c.args.words.now in
    let s = c.args.suffixes.now in
    (shown_words w s c.requires.0, rw c.place_of.ensures (place_few w s c.requires.0 _ c.requires.1))

pub returns : goal.returns
returns c =
    let w = c.args.words.now in
    let s = c.args.suffixes.now in
    c.pair_at.ensures ∙ ap (pair_in w) c.place_of.ensures ∙ sym (shown_pair w s c.requires.0 _ c.requires.1)
