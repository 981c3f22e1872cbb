-- `requests::question` meets its contract. Assumes nothing.
use Rattle.octets.proofs.Laws.{then}
use Rattle.model.specs.Tkey.{tkey_type}
use Rattle.model.specs.Tsig.{any_class}
use Rattle.requests.specs.Pieces.{question_octets}
use borrow.Author.Rules.{rules}
use Rattle.requests.proofs.question.Goals as goal

pub returns : goal.returns
unfolding question_octets tkey_type any_class
returns c =
    let w₁ = c.all_into-a.ensures.1 in
    let w₂ = c.u16_into-b.ensures.1 in
    let w₃ = c.u16_into.ensures.1 in
    (search rules, then w₁ (then w₂ w₃))
