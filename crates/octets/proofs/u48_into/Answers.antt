-- `octets::u48_into` meets its contract: two octets and then four, as `be48` says. Assumes nothing.
use Rattle.model.specs.Octets.{be48}
use Rattle.octets.proofs.Laws.{then}
use borrow.Author.Rules.{rules}
use Rattle.octets.proofs.u48_into.Goals as goal

pub returns : goal.returns
unfolding be48
returns c = (search rules, then c.u16_into-next.ensures.1 c.u32_into.ensures.1)
