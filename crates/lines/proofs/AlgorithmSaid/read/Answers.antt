-- The field is compared with each word. Assumes nothing.
use mathlib.Core.Path.{refl, sym, ◌∙◌}
use Rattle.model.specs.Octets.{part}
use Rattle.model.specs.Names.{algorithm_name}
use Rattle.model.specs.Listing.{algorithm_word}
use Rattle.model.specs.Lines.{algorithm_said}
use Rattle.lines.proofs.AlgorithmSaid.read.Goals as goal

pub returns-then-is_word : goal.returns-then-is_word
unfolding algorithm_said algorithm_word algorithm_name part
returns-then-is_word c = rw (sym c.is_word.ensures ∙ c.if-is_word.true) refl

pub returns-then-is_word-2 : goal.returns-then-is_word-2
unfolding algorithm_said algorithm_word algorithm_name part
returns-then-is_word-2 c = rw (sym c.is_word.ensures ∙ c.if-is_word.false, sym c.is_word-2.ensures ∙ c.if-is_word-2.true) refl

pub returns-then-is_word-3 : goal.returns-then-is_word-3
unfolding algorithm_said algorithm_word algorithm_name part
returns-then-is_word-3 c = rw (sym c.is_word.ensures ∙ c.if-is_word.false, sym c.is_word-2.ensures ∙ c.if-is_word-2.false, sym c.is_word-3.ensures ∙ c.if-is_word-3.true) refl

pub returns : goal.returns
unfolding algorithm_said algorithm_word algorithm_name part
returns c = rw (sym c.is_word.ensures ∙ c.if-is_word.false, sym c.is_word-2.ensures ∙ c.if-is_word-2.false, sym c.is_word-3.ensures ∙ c.if-is_word-3.false) refl
