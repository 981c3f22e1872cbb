-- `replies::echo_record` meets its contract. Assumes nothing.
use Rattle.octets.proofs.Laws.{then, wrote_as, part_length}
use mathlib.Core.Path.{sym}
use native.Mathlib.Omega.{arith}
use Rattle.replies.proofs.Laws.{record_octets_lem}
use Rattle.records.specs.Record.{cut}
use borrow.Author.Rules.{rules}
use Rattle.replies.proofs.echo_record.Goals as goal

pub returns : goal.returns
returns c =
    let a = c.args in
    let e = a.e in
    let l = part_length a.m.now e.content.from e.content.size (omega arith) in
    (search rules, wrote_as (record_octets_lem a.owner.now e.kind e.class e.ttl e.content.size (cut a.m.now e.content) (sym l)) (then c.record_front-a.ensures.1 c.part_into.ensures.1))
