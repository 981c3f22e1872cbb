-- `judging::skew_of` meets its contract. Assumes nothing.
use Rattle.std.proofs.Common.{pos, ◌-ℤ◌, arith, w64}
use mir.ValLaws.{to_z_pos, to_z-of_z}
use Rattle.judging.proofs.Skew.{near}
use Rattle.judging.proofs.skew_of.Goals as goal

pub overflow_sub-result : goal.overflow_sub-result
overflow_sub-result c =
    let a = c.args in
    rw (to_z_pos w64 a.signed (omega arith), to_z_pos w64 a.time (omega arith)) (near a.signed a.time (omega arith) (omega arith))

pub returns : goal.returns
returns c =
    let a = c.args in
    rw (to_z_pos w64 a.signed (omega arith), to_z_pos w64 a.time (omega arith))
    (to_z-of_z w64 (pos a.signed -ℤ pos a.time) (near a.signed a.time (omega arith) (omega arith)))
