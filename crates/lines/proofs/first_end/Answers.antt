-- `lines::first_end` meets its contract: the first field is what stands before the first separator. Assumes nothing.
use mathlib.Core.Path.{refl, sym, ◌∙◌}
use Rattle.lines.proofs.Steps.{first_word}
use Rattle.lines.proofs.first_end.Goals as goal

pub returns-then-is_word : goal.returns-then-is_word
returns-then-is_word c =
    let a = c.args in
    let e = c.field_end-end in
    first_word a.line.now e.result e.ensures.ends a.word.now ∙ rw (sym c.is_word.ensures ∙ c.if-is_word.true) refl

pub returns : goal.returns
returns c =
    let a = c.args in
    let e = c.field_end-end in
    first_word a.line.now e.result e.ensures.ends a.word.now ∙ rw (sym c.is_word.ensures ∙ c.if-is_word.false) refl
