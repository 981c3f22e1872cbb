-- `requests::request_front` meets its contract. Assumes nothing.
use Rattle.octets.proofs.Laws.{then}
use Rattle.model.specs.Tkey.{tkey_type}
use Rattle.model.specs.Tsig.{any_class}
use Rattle.requests.specs.Pieces.{request_front}
use borrow.Author.Rules.{rules}
use Rattle.requests.proofs.request_front.Goals as goal

pub returns : goal.returns
unfolding request_front tkey_type any_class
returns c =
    let w₁ = c.header-a.ensures.1 in
    let w₂ = c.question-b.ensures.1 in
    let w₃ = c.record_front-d.ensures.1 in
    let w₄ = c.asked-e.ensures.1 in
    let w₅ = c.u16_into.ensures.1 in
    (search rules, then w₁ (then w₂ (then w₃ (then w₄ w₅))))
