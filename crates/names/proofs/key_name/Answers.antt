-- `names::key_name` meets its contract: the label is written, and then the suffix. Assumes nothing.
use native.Mathlib.Omega.{arith}
use lib.Seq.{length-take-le}
use Rattle.model.specs.Names.{key_name}
use Rattle.octets.proofs.Laws.{then, wrote_as}
use Rattle.names.proofs.key_name.Goals as goal

pub returns : goal.returns
unfolding key_name
returns c =
    let n = length-take-le c.serial_label-n.result c.serial_label-n.new.out (omega arith) in
    (omega (arith, n), then (wrote_as c.serial_label-n.ensures.1 c.all_into-next.ensures.1) c.all_into.ensures.1)
