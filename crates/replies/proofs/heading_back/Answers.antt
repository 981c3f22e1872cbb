-- `replies::heading_back` meets its contract. Assumes nothing.
use Rattle.octets.proofs.Laws.{then}
use Rattle.replies.specs.Parts.{heading_back}
use borrow.Author.Rules.{rules}
use Rattle.replies.proofs.heading_back.Goals as goal

pub returns : goal.returns
unfolding heading_back
returns c =
    let w₁ = c.u16_into-a.ensures.1 in
    let w₂ = c.u16_into-b.ensures.1 in
    let w₃ = c.u16_into-d.ensures.1 in
    let w₄ = c.part_into.ensures.1 in
    (search rules, then w₁ (then w₂ (then w₃ w₄)))
