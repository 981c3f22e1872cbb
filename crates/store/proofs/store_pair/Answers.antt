-- `store::store_pair` meets its contract. Assumes nothing.
use native.Mathlib.Omega.{arith}
use Rattle.octets.proofs.Laws.{then}
use Rattle.store.proofs.Storing.{pair_written, pair_stored}
use Rattle.store.proofs.store_pair.Goals as goal

pub returns : goal.returns
returns c =
    let a = c.args in
    let w₁ = c.word_into-a.ensures.1 in
    let w₂ = c.word_into-b.ensures.1 in
    let w₃ = c.word_into-c.ensures.1 in
    let w₄ = c.keys_into.ensures.1 in
    pair_stored a.p a.place (pair_written a.p (then w₁ (then w₂ (then w₃ w₄))) (omega arith))
