-- `lines::is_key_line` meets its contract: the first field is what stands before the first separator. Assumes nothing.
use mathlib.Core.Path.{◌∙◌}
use Rattle.lines.proofs.Steps.{key_word_lem}
use Rattle.lines.proofs.is_key_line.Goals as goal

pub returns : goal.returns
returns c =
    let e = c.field_end-end in
    c.is_word.ensures ∙ key_word_lem c.args.line.now e.result e.ensures.ends
