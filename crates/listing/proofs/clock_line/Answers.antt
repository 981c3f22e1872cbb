-- `listing::clock_line` meets its contract: the word, the clock, the floor and a newline. Assumes nothing.
use Rattle.model.specs.Text.{line_of, parted_by}
use Rattle.model.specs.Listing.{tabbed, clock_line}
use Rattle.octets.proofs.Laws.{then}
use borrow.Author.Rules.{rules}
use Rattle.listing.proofs.clock_line.Goals as goal

pub returns : goal.returns
unfolding clock_line tabbed line_of parted_by
returns c = (search rules, then c.all_into-next.ensures.1 (then c.number_field-next.ensures.1 (then c.number_field-next-2.ensures.1 c.u8_into.ensures.1)))
