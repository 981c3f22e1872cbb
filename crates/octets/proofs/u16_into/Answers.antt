-- `octets::u16_into` meets its contract: two stores. Assumes nothing.
use mathlib.Core.Path.{refl, ◌∙◌}
use native.Mathlib.Omega.{arith}
use Rattle.model.specs.Octets.{be16}
use Rattle.octets.proofs.Laws.{be16_bytes}
use Rattle.octets.proofs.Back.{wrote_two}
use Rattle.octets.proofs.u16_into.Goals as goal

pub returns : goal.returns
unfolding be16
returns c =
    rw (c.to_be_bytes.ensures ∙ be16_bytes c.args.n (omega arith)) (refl, wrote_two c.args.buf.now c.args.at _ _ (omega arith))
