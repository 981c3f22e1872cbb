-- `store::word_into` meets its contract. Assumes nothing.
use Rattle.octets.proofs.Back.{wrote_set}
use borrow.Author.Rules.{rules}
use Rattle.store.proofs.word_into.Goals as goal

pub returns : goal.returns
returns c = (search rules, wrote_set c.args.w.now c.args.at c.args.x (search rules))
