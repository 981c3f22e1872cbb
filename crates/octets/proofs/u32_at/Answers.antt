-- `octets::u32_at` meets its contract. Assumes nothing.
use mathlib.Core.Path.{◌≡◌}
use Prim.Native.Nat.{◌+◌}
use Rattle.model.specs.Octets.{u32_at, u16_at}
use native.Mathlib.Omega.{arith}
use Rattle.octets.proofs.u32_at.Goals as goal

pub returns : goal.returns
unfolding u32_at u16_at
returns c =
    let s : c.args.at + 2 + 1 ≡ c.args.at + 3 = omega arith in
    rw s (omega (arith, c.from_be_bytes.ensures), omega (arith, c.from_be_bytes.ensures))
