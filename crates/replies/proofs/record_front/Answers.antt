-- `replies::record_front` meets its contract. Assumes nothing.
use Rattle.octets.proofs.Laws.{then}
use Rattle.replies.specs.Parts.{record_front}
use borrow.Author.Rules.{rules}
use Rattle.replies.proofs.record_front.Goals as goal

pub returns : goal.returns
unfolding record_front
returns c =
    let w₁ = c.all_into-a.ensures.1 in
    let w₂ = c.u16_into-b.ensures.1 in
    let w₃ = c.u16_into-d.ensures.1 in
    let w₄ = c.u32_into-e.ensures.1 in
    let w₅ = c.u16_into.ensures.1 in
    (search rules, then w₁ (then w₂ (then w₃ (then w₄ w₅))))
