-- `records::part_of` meets its contract. Assumes nothing.
use native.Mathlib.Omega.{arith}
use mathlib.Core.Path.{◌≡◌, refl}
use Prim.Native.Nat.{◌+◌, ◌-◌}
use Rattle.model.specs.Octets.{part}
use Rattle.records.proofs.Parts.{cut_length}
use Rattle.records.proofs.part_of.Goals as goal

pub returns : goal.returns
unfolding part
returns c =
    let p = c.args.p in
    let e : p.from + p.size - p.from ≡ p.size = omega arith in
    (rw e refl, rw e (cut_length _ p c.requires))
