-- `replies::sized` meets its contract. Assumes nothing.
use Rattle.octets.proofs.Laws.{then}
use Rattle.replies.specs.Parts.{sized_octets}
use borrow.Author.Rules.{rules}
use Rattle.replies.proofs.sized.Goals as goal

pub returns : goal.returns
unfolding sized_octets
returns c = (search rules, then c.u16_into-a.ensures.1 c.all_into.ensures.1)
