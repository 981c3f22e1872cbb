-- `listing::pair_line` meets its contract: the word, the suffix and three numbers. Assumes nothing.
use Rattle.model.specs.Text.{line_of, parted_by}
use Rattle.model.specs.Listing.{tabbed, pair_line}
use Rattle.octets.proofs.Laws.{then}
use borrow.Author.Rules.{rules}
use Rattle.listing.proofs.pair_line.Goals as goal

pub returns : goal.returns
unfolding pair_line tabbed line_of parted_by
returns c = (search rules, then c.all_into-next.ensures.1 (then c.hex_into-next.ensures.1 c.line_end.ensures.1))
