-- `rules::suffix_ok` meets its contract. Assumes nothing.
use Rattle.model.proofs.Tests.{and_true, and_assoc}
use Rattle.model.specs.Tables.{suffix_ok}
use Rattle.rules.proofs.suffix_ok.Goals as goal

pub returns : goal.returns
unfolding suffix_ok
returns c = simp (c.wire_name.ensures, and_true, and_assoc)
