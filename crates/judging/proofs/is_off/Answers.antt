-- `judging::is_off` meets its contract. Assumes nothing.
use Rattle.std.proofs.Common.{ltb, ap, arith}
use Rattle.model.specs.Judging.{apart}
use Rattle.judging.proofs.is_off.Goals as goal

pub returns : goal.returns
unfolding apart
returns c = ap (ltb c.args.fudge) (omega arith)
