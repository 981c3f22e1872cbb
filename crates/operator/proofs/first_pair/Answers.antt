-- `operator::first_pair` meets its contract. Assumes nothing.
use mathlib.Core.Path.{refl}
use Rattle.model.specs.Calls.{fresh_pair}
use Rattle.operator.proofs.Laws.{first_made}
use Rattle.operator.proofs.first_pair.Goals as goal

pub returns : goal.returns
unfolding fresh_pair
returns c = first_made _ _ _ _ _ refl c.requires.0 c.requires.1 c.requires.2 c.issue.ensures
