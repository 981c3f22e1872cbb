-- `words::is_word` meets its contract. Assumes nothing.
use mathlib.Core.Path.{◌∙◌}
use Rattle.words.proofs.Laws.{word_test}
use Rattle.words.proofs.is_word.Goals as goal

pub returns : goal.returns
returns c = c.eq.ensures ∙ word_test c.args.a.now c.args.b.now
