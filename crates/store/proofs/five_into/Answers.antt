-- `store::five_into` meets its contract. Assumes nothing.
use Rattle.octets.proofs.Laws.{then}
use borrow.Author.Rules.{rules}
use Rattle.store.proofs.five_into.Goals as goal

pub returns : goal.returns
returns c =
    let w₁ = c.word_into-i.ensures.1 in
    let w₂ = c.word_into-j.ensures.1 in
    let w₃ = c.word_into-k.ensures.1 in
    let w₄ = c.word_into-l.ensures.1 in
    let w₅ = c.word_into.ensures.1 in
    (search rules, then w₁ (then w₂ (then w₃ (then w₄ w₅))))
