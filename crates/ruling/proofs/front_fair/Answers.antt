-- `ruling::front_fair` meets its contract. Assumes nothing.
use mathlib.Core.Path.{refl}
use Rattle.model.specs.Tables.{clock_rule, serial_rule}
use Rattle.ruling.specs.Rules.{front_fair}
use Rattle.ruling.proofs.front_fair.Goals as goal

pub returns : goal.returns
unfolding front_fair clock_rule serial_rule
returns c = refl
