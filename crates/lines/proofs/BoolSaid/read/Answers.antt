-- The field is compared with each word. Assumes nothing.
use mathlib.Core.Path.{refl, sym, ◌∙◌}
use Rattle.model.specs.Listing.{adopted_word, waiting_word}
use Rattle.model.specs.Lines.{is_adopted}
use Rattle.lines.proofs.BoolSaid.read.Goals as goal

pub returns-then-is_word : goal.returns-then-is_word
unfolding is_adopted adopted_word waiting_word
returns-then-is_word c = rw (sym c.is_word.ensures ∙ c.if-is_word.true) refl

pub returns-then-is_word-2 : goal.returns-then-is_word-2
unfolding is_adopted adopted_word waiting_word
returns-then-is_word-2 c = rw (sym c.is_word.ensures ∙ c.if-is_word.false, sym c.is_word-2.ensures ∙ c.if-is_word-2.true) refl

pub returns : goal.returns
unfolding is_adopted adopted_word waiting_word
returns c = rw (sym c.is_word.ensures ∙ c.if-is_word.false, sym c.is_word-2.ensures ∙ c.if-is_word-2.false) refl
