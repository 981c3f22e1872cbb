-- `store::key_into` meets its contract. Assumes nothing.
use Rattle.store.specs.Layout.{key_words}
use borrow.Author.Rules.{rules}
use Rattle.store.proofs.key_into.Goals as goal

pub returns : goal.returns
unfolding key_words
returns c = (search rules, rw c.from.ensures at c.five_into.ensures.1)
