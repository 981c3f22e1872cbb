-- `octets::u32_into` meets its contract: four stores. Assumes nothing.
use mathlib.Core.Path.{refl, ◌∙◌}
use native.Mathlib.Omega.{arith}
use Rattle.model.specs.Octets.{be32}
use Rattle.octets.proofs.Laws.{be32_bytes}
use Rattle.octets.proofs.Back.{wrote_four}
use Rattle.octets.proofs.u32_into.Goals as goal

pub returns : goal.returns
unfolding be32
returns c =
    rw (c.to_be_bytes.ensures ∙ be32_bytes c.args.n (omega arith)) (refl, wrote_four c.args.buf.now c.args.at _ _ _ _ (omega arith))
