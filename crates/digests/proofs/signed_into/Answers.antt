-- `digests::signed_into` meets its contract. Assumes nothing.
use Rattle.octets.proofs.Laws.{then}
use borrow.Author.Rules.{rules}
use Rattle.digests.proofs.signed_into.Goals as goal

pub returns : goal.returns
returns c =
    let w₁ = c.u48_into-a.ensures.1 in
    let w₂ = c.u16_into.ensures.1 in
    (search rules, then w₁ w₂)
