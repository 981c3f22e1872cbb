-- `listing::clock_into` meets its contract. Assumes nothing.
use Rattle.listing.proofs.Laws.{copied}
use Rattle.listing.proofs.clock_into.Goals as goal

pub returns : goal.returns
returns c = copied c.clock_line-n.ensures.1 c.part_into.ensures.1
