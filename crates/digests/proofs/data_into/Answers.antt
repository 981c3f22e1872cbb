-- `digests::data_into` meets its contract. Assumes nothing.
use Rattle.octets.proofs.Laws.{then, wrote_as}
use Rattle.digests.specs.Stamps.{stamp_of}
use Rattle.digests.proofs.Laws.{data_octets}
use Rattle.digests.proofs.data_into.Goals as goal

pub returns : goal.returns
returns c =
    let a = c.args in
    let w₁ = c.all_into-a.ensures.1 in
    let w₂ = c.signed_into-b.ensures.1 in
    let w₃ = c.u16_into-d.ensures.1 in
    let w₄ = c.all_into-e.ensures.1 in
    let w₅ = c.u16_into-f.ensures.1 in
    let w₆ = c.other_into.ensures.1 in
    let w = then w₁ (then w₂ (then w₃ (then w₄ (then w₅ w₆)))) in
    wrote_as (data_octets (stamp_of a.numbers a.algorithm.now a.mac.now a.other.now)) w
