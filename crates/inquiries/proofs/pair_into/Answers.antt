-- `inquiries::pair_into` meets its contract. Assumes nothing.
use native.Mathlib.Omega.{arith}
use Rattle.octets.proofs.Laws.{then}
use Rattle.store.proofs.Storing.{pair_written}
use Rattle.inquiries.proofs.Laws.{filled, words_count}
use Rattle.inquiries.proofs.pair_into.Goals as goal

pub returns : goal.returns
returns c =
    let p = c.args.p in
    let w₁ = c.word_into-a.ensures.1 in
    let w₂ = c.word_into-b.ensures.1 in
    let w₃ = c.word_into-c.ensures.1 in
    let w₄ = c.keys_into.ensures.1 in
    filled {next = 14} (pair_written p (then w₁ (then w₂ (then w₃ w₄))) (omega arith)) (omega (arith, words_count p))
