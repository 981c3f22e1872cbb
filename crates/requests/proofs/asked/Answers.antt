-- `requests::asked` meets its contract. Assumes nothing.
use Rattle.octets.proofs.Laws.{then}
use Rattle.requests.specs.Pieces.{asked_octets}
use borrow.Author.Rules.{rules}
use Rattle.requests.proofs.asked.Goals as goal

pub returns : goal.returns
unfolding asked_octets
returns c =
    let w₁ = c.algorithm_into-a.ensures.1 in
    let w₂ = c.u32_into-b.ensures.1 in
    let w₃ = c.u32_into-d.ensures.1 in
    let w₄ = c.u16_into-e.ensures.1 in
    let w₅ = c.u16_into-f.ensures.1 in
    let w₆ = c.u16_into.ensures.1 in
    (search rules, then w₁ (then w₂ (then w₃ (then w₄ (then w₅ w₆)))))
