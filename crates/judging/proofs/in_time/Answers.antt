-- `judging::in_time` meets its contract. Assumes nothing.
use Rattle.model.specs.Judging.{in_time}
use Rattle.std.proofs.Common.{rules}
use Rattle.judging.proofs.in_time.Goals as goal

pub returns : goal.returns
unfolding in_time
returns c = search rules
