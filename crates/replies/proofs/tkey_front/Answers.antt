-- `replies::tkey_front` meets its contract. Assumes nothing.
use Rattle.octets.proofs.Laws.{then}
use Rattle.replies.specs.Parts.{tkey_front}
use borrow.Author.Rules.{rules}
use Rattle.replies.proofs.tkey_front.Goals as goal

pub returns : goal.returns
unfolding tkey_front
returns c =
    let w₁ = c.part_into-a.ensures.1 in
    let w₂ = c.u32_into-b.ensures.1 in
    let w₃ = c.u32_into-d.ensures.1 in
    let w₄ = c.u16_into-e.ensures.1 in
    let w₅ = c.u16_into.ensures.1 in
    (search rules, then w₁ (then w₂ (then w₃ (then w₄ w₅))))
