-- `signing::later_in` meets its contract. Assumes nothing.
use mathlib.Core.List.{[]}
use native.Mathlib.Omega.{arith}
use Rattle.octets.proofs.Laws.{then, wrote_as}
use Rattle.digests.specs.Stamps.{stamp_of}
use Rattle.digests.proofs.Laws.{later_octets, later_length}
use Rattle.digests.proofs.Ends.{unroomed, roomed, mac_refused, mac_passes}
use Rattle.signing.proofs.Later.{renumbered}
use Rattle.signing.proofs.later_in.Goals as goal

pub returns-then-prior-gt-LONGEST_MAC : goal.returns-then-prior-gt-LONGEST_MAC
returns-then-prior-gt-LONGEST_MAC c = λ algorithm mac other. mac_refused c.args.prior.now _ _ (omega arith)

pub returns-then-out-before : goal.returns-then-out-before
returns-then-out-before c = λ algorithm mac other.
    let a = c.args in
    let l = later_length a.m.now [] (stamp_of a.numbers algorithm mac other) (omega arith) a.prior.now a.before.now in
    mac_passes a.prior.now _ _ (omega arith) _ _ (unroomed _ a.out.now (omega arith))

pub returns-then-out-before-2 : goal.returns-then-out-before-2
returns-then-out-before-2 c = λ algorithm mac other.
    let a = c.args in
    let l = later_length a.m.now [] (stamp_of a.numbers algorithm mac other) (omega arith) a.prior.now a.before.now in
    mac_passes a.prior.now _ _ (omega arith) _ _ (unroomed _ a.out.now (omega arith))

pub returns : goal.returns
returns c = λ algorithm mac other.
    let a = c.args in
    let t = stamp_of a.numbers algorithm mac other in
    let w = then c.prior_into-a.ensures.1 (then (then c.u16_into-b.ensures.1 c.all_into-d.ensures.1) c.signed_into.ensures.1) in
    let e = later_octets t a.prior.now a.before.now a.m.now _ (renumbered t.original_id a.m.now) in
    mac_passes a.prior.now _ _ (omega arith) _ _ (roomed _ _ _ _ (wrote_as e w))
