-- `listing::row_into` meets its contract. Assumes nothing.
use Rattle.listing.proofs.Laws.{copied}
use Rattle.listing.proofs.row_into.Goals as goal

pub returns : goal.returns
returns c = copied c.row_lines-n.ensures.1 c.part_into.ensures.1
