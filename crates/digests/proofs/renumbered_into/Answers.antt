-- `digests::renumbered_into` meets its contract. Assumes nothing.
use Rattle.octets.proofs.Laws.{then}
use borrow.Author.Rules.{rules}
use Rattle.digests.proofs.renumbered_into.Goals as goal

pub returns : goal.returns
returns c =
    let w₁ = c.u16_into-a.ensures.1 in
    let w₂ = c.part_into-b.ensures.1 in
    let w₃ = c.u16_into-d.ensures.1 in
    let w₄ = c.part_into.ensures.1 in
    (search rules, then w₁ (then w₂ (then w₃ w₄)))
