-- `receiving::digest_at` meets its contract. Assumes nothing.
use Rattle.octets.proofs.Laws.{then, wrote_as}
use Rattle.records.specs.Record.{cut}
use Rattle.receiving.proofs.Pieces.{digest_is}
use Rattle.receiving.proofs.digest_at.Goals as goal

pub returns : goal.returns
returns c =
    let a = c.args in
    let w = then c.cut_into-a.ensures.1 (c.variables_into.ensures.1 (cut a.m.now a.tsig.fields.mac)) in
    wrote_as (digest_is a.m.now a.tsig c.requires.0 _ c.numbers_of.ensures a.name.now _ _ c.part_of-hash.ensures.0 c.part_of-rest.ensures.0) w
