use Rattle.loading.proofs.Ends.{lends_no_words, lends_no_octets, kept_not, kept_both}
use Rattle.loading.proofs.keep.Goals.{then-words-ne1091-via-then-words-ne1091, then-words-ne1091-via-else-words-ne1091+then-suffixes-ne8192}
use Rattle.loading.proofs.keep.Goals as goal

pub returns-then-words-ne1091 : goal.returns-then-words-ne1091
returns-then-words-ne1091 c =
    let a = c.args in
    kept_not a.w.now a.s.now a.words.now a.suffixes.now (
    elim c.then-words-ne1091.branch [
      | then-words-ne1091-via-then-words-ne1091 w ↦ lends_no_words a.words.now a.suffixes.now w.if-words-ne1091.true
      | then-words-ne1091-via-else-words-ne1091+then-suffixes-ne8192 w ↦ lends_no_octets a.words.now a.suffixes.now w.if-suffixes-ne8192.true
    ]
    )

pub returns : goal.returns
returns c =
    let a = c.args in
    kept_both a.w.now a.s.now a.words.now a.suffixes.now c.if-words-ne1091.false c.if-suffixes-ne8192.false c.copy_from_slice.ensures.after c.copy_from_slice-2.ensures.after
