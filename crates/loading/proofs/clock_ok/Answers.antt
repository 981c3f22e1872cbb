use Rattle.model.specs.Loading.{clocked_rule}
use Rattle.model.specs.Tables.{clock_rule, serial_rule}
use Rattle.model.proofs.Tests.{and_assoc}
use Rattle.loading.proofs.clock_ok.Goals as goal

pub returns : goal.returns
unfolding clocked_rule clock_rule serial_rule
returns c = simp and_assoc
