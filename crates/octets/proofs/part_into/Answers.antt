-- `octets::part_into` meets its contract: the part of s is lent to `all_into`. Assumes nothing.
use native.Mathlib.Omega.{arith}
use Rattle.octets.proofs.Laws.{part_slice, part_length, wrote_as}
use Rattle.octets.proofs.part_into.Goals as goal

pub returns : goal.returns
returns c =
    let a = c.args in
    let w = wrote_as (part_slice a.s.now a.from a.n) c.all_into.ensures.1 in
    (omega (arith, part_length a.s.now a.from a.n (omega arith)), w)
