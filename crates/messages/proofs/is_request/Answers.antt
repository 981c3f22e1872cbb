-- `messages::is_request` meets its contract. Assumes nothing.
use borrow.Author.Rules.{rules}
use Rattle.messages.proofs.is_request.Goals as goal

pub returns : goal.returns
returns c = rw (c.asks_tkey-asks.ensures, c.opcode.ensures.0) (search rules)
