-- `judging::is_refused` meets its contract. Assumes nothing.
use Rattle.model.specs.Judging.{is_revoked}
use Rattle.std.proofs.Common.{rules}
use Rattle.judging.proofs.is_refused.Goals as goal

pub returns : goal.returns
unfolding is_revoked
returns c = search rules
