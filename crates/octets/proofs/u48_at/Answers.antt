-- `octets::u48_at` meets its contract. Assumes nothing.
use Rattle.model.specs.Octets.{u48_at}
use borrow.Author.Rules.{rules}
use Rattle.octets.proofs.u48_at.Goals as goal

pub returns : goal.returns
unfolding u48_at
returns c = search rules
