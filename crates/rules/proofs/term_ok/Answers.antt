-- `rules::term_ok` meets its contract. Assumes nothing.
use Rattle.model.proofs.Tests.{and_true, and_assoc}
use Rattle.model.specs.Tables.{term_ok}
use Rattle.rules.proofs.term_ok.Goals as goal

pub returns : goal.returns
unfolding term_ok
returns c = simp (and_true, and_assoc)
