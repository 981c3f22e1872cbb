use mathlib.Core.Path.{◌≡◌, ap, ◌∙◌}
use mathlib.Core.Bool.{false}
use Rattle.std.specs.Prelude.{Err}
use Rattle.loading.specs.Loads.{lends}
use Rattle.loading.proofs.Ends.{lends_both, lends_no_words, lends_no_octets, mend_line_lem, mend_table_lem, mend_misfits, mend_short, mend_whole}
use Rattle.loading.proofs.mend.Goals.{then-words-ne1091-via-then-words-ne1091, then-words-ne1091-via-else-words-ne1091+then-suffixes-ne8192}
use Rattle.loading.proofs.mend.Goals as goal

pub returns-in-Err-Line : goal.returns-in-Err-Line
returns-in-Err-Line c = mend_line_lem _ _ _ _ _ c.mendable.ensures (c.in-Err-Line.is ∙ ap Err c.in-Err-Line.field-0-is) c.mend_refused.ensures

pub returns-in-Err-Table : goal.returns-in-Err-Table
returns-in-Err-Table c = mend_table_lem _ _ _ _ _ c.mendable.ensures (c.in-Err-Table.is ∙ ap Err c.in-Err-Table.field-0-is) c.mend_refused-in-Err-Table.ensures

pub returns-then-words-ne1091 : goal.returns-then-words-ne1091
returns-then-words-ne1091 c =
    let a = c.args in
    let misfits : lends a.words.now a.suffixes.now ≡ false =
    elim c.then-words-ne1091.branch [
      | then-words-ne1091-via-then-words-ne1091 w ↦ lends_no_words a.words.now a.suffixes.now w.if-words-ne1091.true
      | then-words-ne1091-via-else-words-ne1091+then-suffixes-ne8192 w ↦ lends_no_octets a.words.now a.suffixes.now w.if-suffixes-ne8192.true
    ] in
    mend_misfits a.text.now a.words.now a.suffixes.now a.named.now _ c.mendable.ensures _ c.in-Ok.is misfits c.mend_refused-then-words-ne1091.ensures

pub returns-then-named-dropped : goal.returns-then-named-dropped
returns-then-named-dropped c =
    let a = c.args in
    mend_short a.text.now a.words.now a.suffixes.now a.named.now _ c.mendable.ensures _ c.in-Ok.is (lends_both a.words.now a.suffixes.now c.if-words-ne1091.false c.if-suffixes-ne8192.false) c.if-named-dropped.true c.mend_refused-then-named-dropped.ensures

pub returns : goal.returns
returns c =
    let a = c.args in
    mend_whole a.text.now a.words.now a.suffixes.now a.named.now _ c.mendable.ensures _ c.in-Ok.is (lends_both a.words.now a.suffixes.now c.if-words-ne1091.false c.if-suffixes-ne8192.false) c.if-named-dropped.false _ c.read_into.ensures
