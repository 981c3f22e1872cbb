-- `digests::counted_into` meets its contract. Assumes nothing.
use Rattle.octets.proofs.Laws.{then}
use borrow.Author.Rules.{rules}
use Rattle.digests.proofs.counted_into.Goals as goal

pub returns : goal.returns
returns c = (search rules, then c.part_into-a.ensures.1 (then c.u16_into-b.ensures.1 c.part_into.ensures.1))
