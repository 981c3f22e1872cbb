-- `digests::other_into` meets its contract. Assumes nothing.
use Rattle.octets.proofs.Laws.{then}
use borrow.Author.Rules.{rules}
use Rattle.digests.proofs.other_into.Goals as goal

pub returns : goal.returns
returns c =
    let w₁ = c.u16_into-a.ensures.1 in
    let w₂ = c.u16_into-b.ensures.1 in
    let w₃ = c.all_into.ensures.1 in
    (search rules, then w₁ (then w₂ w₃))
