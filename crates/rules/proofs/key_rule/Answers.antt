-- `rules::key_rule` meets its contract. Assumes nothing.
use Rattle.model.proofs.Tests.{and_true, and_assoc}
use Rattle.model.specs.Tables.{key_rule}
use Rattle.rules.proofs.key_rule.Goals as goal

pub returns : goal.returns
unfolding key_rule
returns c = simp (c.lasts.ensures, and_true, and_assoc)
