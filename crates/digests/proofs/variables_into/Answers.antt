-- `digests::variables_into` meets its contract. Assumes nothing.
use Rattle.octets.proofs.Laws.{then, wrote_as}
use Rattle.digests.specs.Stamps.{stamp_of}
use Rattle.digests.proofs.Laws.{variables_octets}
use borrow.Author.Rules.{rules}
use Rattle.digests.proofs.variables_into.Goals as goal

pub returns : goal.returns
returns c =
    let a = c.args in
    let w₁ = c.canonical_into-a.ensures.1 in
    let w₂ = c.u16_into-b.ensures.1 in
    let w₃ = c.u32_into-d.ensures.1 in
    let w₄ = c.canonical_into-e.ensures.1 in
    let w₅ = c.signed_into-f.ensures.1 in
    let w₆ = c.other_into.ensures.1 in
    let w = then w₁ (then w₂ (then w₃ (then w₄ (then w₅ w₆)))) in
    (search rules, λ mac. wrote_as (variables_octets (stamp_of a.numbers a.algorithm.now mac a.other.now) a.name.now) w)
