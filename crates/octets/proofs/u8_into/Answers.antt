-- `octets::u8_into` meets its contract: one store. Assumes nothing.
use Rattle.octets.proofs.Back.{wrote_set}
use borrow.Author.Rules.{rules}
use Rattle.octets.proofs.u8_into.Goals as goal

pub returns : goal.returns
returns c = (search rules, wrote_set c.args.buf.now c.args.at c.args.x (search rules))
