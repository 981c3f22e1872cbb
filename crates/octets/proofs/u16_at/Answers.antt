-- `octets::u16_at` meets its contract. Assumes nothing.
use Rattle.model.specs.Octets.{u16_at}
use native.Mathlib.Omega.{arith}
use Rattle.octets.proofs.u16_at.Goals as goal

pub returns : goal.returns
unfolding u16_at
returns c = (omega (arith, c.from_be_bytes.ensures, c.from.ensures), omega (arith, c.from_be_bytes.ensures, c.from.ensures))
