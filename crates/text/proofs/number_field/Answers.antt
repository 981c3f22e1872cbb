-- `text::number_field` meets its contract: the separator, and then the number. Assumes nothing.
use Rattle.octets.proofs.Laws.{then}
use borrow.Author.Rules.{rules}
use Rattle.text.proofs.number_field.Goals as goal

pub returns : goal.returns
returns c = (search rules, then c.u8_into-next.ensures.1 c.number_into.ensures.1)
