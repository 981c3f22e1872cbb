-- `inquiries::pair_words` meets its contract. Assumes nothing.
use mathlib.Core.Path.{ap, ◌∙◌}
use Rattle.model.specs.declared.ShownPair.{ShownPair}
use Rattle.store.specs.Layout.{pair_words}
use Rattle.inquiries.proofs.pair_words.Goals as goal

pub show_pair-s-requires : goal.show_pair-s-requires
show_pair-s-requires c = tt

pub returns : goal.returns
returns c = record { number = ap (λ (s : ShownPair). s.number) c.show_pair-s.ensures; told = c.pair_into.ensures ∙ ap (λ (s : ShownPair). pair_words s.pair) c.show_pair-s.ensures }
