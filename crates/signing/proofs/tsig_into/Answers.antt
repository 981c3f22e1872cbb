-- `signing::tsig_into` meets its contract. Assumes nothing.
use Rattle.digests.specs.Stamps.{stamp_of}
use Rattle.octets.proofs.Laws.{then, wrote_as}
use Rattle.signing.proofs.Ends.{tsig_octets}
use Rattle.signing.proofs.tsig_into.Goals as goal

pub returns : goal.returns
returns c =
    let a = c.args in
    wrote_as (tsig_octets a.name.now (stamp_of a.numbers a.algorithm.now a.mac.now a.other.now)) (then c.record_front-a.ensures.1 c.data_into.ensures)
