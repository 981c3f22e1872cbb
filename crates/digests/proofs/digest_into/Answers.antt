-- `digests::digest_into` meets its contract. Assumes nothing.
use Rattle.octets.proofs.Laws.{then, wrote_as}
use Rattle.digests.specs.Stamps.{stamp_of}
use Rattle.digests.proofs.Laws.{digest_octets}
use Rattle.digests.proofs.digest_into.Goals as goal

pub returns : goal.returns
returns c =
    let a = c.args in
    let w₁ = c.u16_into-a.ensures.1 in
    let w₂ = c.all_into-b.ensures.1 in
    let w₃ = c.variables_into.ensures.1 in
    λ mac. wrote_as (digest_octets (stamp_of a.numbers a.algorithm.now mac a.other.now) a.m.now a.name.now) (then w₁ (then w₂ (w₃ mac)))
