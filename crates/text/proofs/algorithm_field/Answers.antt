-- `text::algorithm_field` meets its contract. Assumes nothing.
use mathlib.Core.Path.{sym, ap}
use mathlib.Core.List.{◌∷◌}
use Rattle.model.specs.declared.Algorithm.{Algorithm}
use Rattle.model.specs.Octets.{part}
use Rattle.model.specs.Names.{algorithm_name}
use Rattle.model.specs.Listing.{algorithm_word}
use Rattle.octets.proofs.Laws.{wrote_as}
use borrow.Author.Rules.{rules}
use Rattle.text.proofs.algorithm_field.Goals as goal

pub returns-in-Sha256 : goal.returns-in-Sha256
unfolding algorithm_word part algorithm_name
returns-in-Sha256 c = (search rules, wrote_as (ap (λ (g : Algorithm). 9 ∷ algorithm_word g) (sym c.in-Sha256.is)) c.all_into.ensures.1)

pub returns-in-Sha384 : goal.returns-in-Sha384
unfolding algorithm_word part algorithm_name
returns-in-Sha384 c = (search rules, wrote_as (ap (λ (g : Algorithm). 9 ∷ algorithm_word g) (sym c.in-Sha384.is)) c.all_into-in-Sha384.ensures.1)

pub returns-in-Sha512 : goal.returns-in-Sha512
unfolding algorithm_word part algorithm_name
returns-in-Sha512 c = (search rules, wrote_as (ap (λ (g : Algorithm). 9 ∷ algorithm_word g) (sym c.in-Sha512.is)) c.all_into-in-Sha512.ensures.1)
