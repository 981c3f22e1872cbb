-- `requests::old_key` meets its contract. Assumes nothing.
use Rattle.octets.proofs.Laws.{then}
use Rattle.model.specs.Resolver.{old_key}
use borrow.Author.Rules.{rules}
use Rattle.requests.proofs.old_key.Goals as goal

pub returns : goal.returns
unfolding old_key
returns c =
    let w₁ = c.all_into-a.ensures.1 in
    let w₂ = c.algorithm_into.ensures.1 in
    (search rules, then w₁ w₂)
