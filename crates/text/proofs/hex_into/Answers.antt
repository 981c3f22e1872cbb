-- `text::hex_into` meets its contract. The loop's invariant: the first octets of s are written. Assumes nothing.
use mathlib.Core.Path.{refl, ap}
use native.Mathlib.Omega.{arith}
use lib.Seq.{take_all}
use Rattle.model.specs.Text.{hex_of}
use Rattle.octets.proofs.Laws.{then, wrote_as}
use Rattle.octets.proofs.Back.{wrote_none}
use Rattle.text.proofs.Laws.{hex_more}
use Rattle.text.proofs.hex_into.Goals as goal

pub loop-x-init : goal.loop-x-init
unfolding hex_of
loop-x-init c = (omega arith, refl, wrote_none _ _ (omega arith))

pub loop-x-preserved : goal.loop-x-preserved
loop-x-preserved c =
    let l = c.loop-x in
    let w = c.octet_into-next in
    (omega arith, omega arith, wrote_as (hex_more c.args.s.now l.x-index (omega arith)) (then l.invariant.2 w.ensures.1))

pub returns : goal.returns
returns c =
    let l = c.loop-x in
    (omega arith, wrote_as (ap hex_of (take_all l.x-index c.args.s.now (omega arith))) l.invariant.2)
