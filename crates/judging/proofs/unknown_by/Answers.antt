-- `judging::unknown_by` meets its contract. Assumes nothing.
use Rattle.model.specs.Judging.{unknown}
use Rattle.std.proofs.Common.{rules}
use Rattle.judging.proofs.unknown_by.Goals as goal

pub returns : goal.returns
unfolding unknown
returns c = search rules
