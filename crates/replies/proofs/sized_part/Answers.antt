-- `replies::sized_part` meets its contract. Assumes nothing.
use Rattle.octets.proofs.Laws.{then, wrote_as, part_length}
use native.Mathlib.Omega.{arith}
use mathlib.Core.Path.{ap, sym}
use Rattle.model.specs.Octets.{be16}
use Rattle.replies.specs.Parts.{sized_octets}
use borrow.Author.Rules.{rules}
use Rattle.replies.proofs.sized_part.Goals as goal

pub returns : goal.returns
unfolding sized_octets
returns c =
    let a = c.args in
    let l = part_length a.m.now a.p.from a.p.size (omega arith) in
    (search rules, then (wrote_as (ap be16 (sym l)) c.u16_into-a.ensures.1) c.part_into.ensures.1)
