-- `listing::row_lines` meets its contract. Assumes nothing.
use Rattle.octets.proofs.Laws.{then}
use borrow.Author.Rules.{rules}
use Rattle.listing.proofs.row_lines.Goals as goal

pub returns : goal.returns
returns c = (search rules, then c.pair_line-next.ensures.1 c.key_lines.ensures.1)
