-- `store::keys_into` meets its contract. Assumes nothing.
use Rattle.store.specs.Layout.{no_words, keys_words}
use Rattle.octets.proofs.Laws.{then}
use borrow.Author.Rules.{rules}
use Rattle.store.proofs.keys_into.Goals as goal

pub returns-in-Empty : goal.returns-in-Empty
unfolding keys_words no_words
returns-in-Empty c =
    let w₁ = c.word_into-a.ensures.1 in
    let w₂ = c.five_into-b.ensures.1 in
    let w₃ = c.five_into.ensures.1 in
    (search rules, rw c.in-Empty.is (then w₁ (then w₂ w₃)))

pub returns-in-Adopted : goal.returns-in-Adopted
unfolding keys_words no_words
returns-in-Adopted c =
    let w₁ = c.word_into-a-in-Adopted.ensures.1 in
    let w₂ = c.key_into-b.ensures.1 in
    let w₃ = c.five_into-in-Adopted.ensures.1 in
    (search rules, rw c.in-Adopted.is (then w₁ (then w₂ w₃)))

pub returns-in-Renewing : goal.returns-in-Renewing
unfolding keys_words no_words
returns-in-Renewing c =
    let w₁ = c.word_into-a-in-Renewing.ensures.1 in
    let w₂ = c.key_into-b-in-Renewing.ensures.1 in
    let w₃ = c.key_into.ensures.1 in
    (search rules, rw c.in-Renewing.is (then w₁ (then w₂ w₃)))
