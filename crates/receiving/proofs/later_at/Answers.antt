-- `receiving::later_at` meets its contract. Assumes nothing.
use native.Mathlib.Omega.{arith}
use Rattle.octets.proofs.Laws.{then, wrote_as}
use Rattle.digests.proofs.Ends.{unroomed, roomed, mac_refused, mac_passes}
use Rattle.receiving.proofs.Pieces.{later_is, later_size}
use Rattle.receiving.proofs.later_at.Goals as goal

pub returns-then-prior-gt-LONGEST_MAC : goal.returns-then-prior-gt-LONGEST_MAC
returns-then-prior-gt-LONGEST_MAC c = mac_refused c.args.prior.now _ _ (omega arith)

pub returns-then-out-before : goal.returns-then-out-before
returns-then-out-before c =
    let a = c.args in
    let l = later_size a.m.now a.tsig c.requires a.prior.now a.before.now in
    mac_passes a.prior.now _ _ (omega arith) _ _ (unroomed _ a.out.now (omega arith))

pub returns-then-out-before-2 : goal.returns-then-out-before-2
returns-then-out-before-2 c =
    let a = c.args in
    let l = later_size a.m.now a.tsig c.requires a.prior.now a.before.now in
    mac_passes a.prior.now _ _ (omega arith) _ _ (unroomed _ a.out.now (omega arith))

pub returns : goal.returns
returns c =
    let a = c.args in
    let w = then c.prior_into-a.ensures.1 (then c.cut_into-b.ensures.1 c.signed_into.ensures.1) in
    let e = later_is a.m.now a.tsig c.requires _ c.numbers_of.ensures a.prior.now a.before.now in
    mac_passes a.prior.now _ _ (omega arith) _ _ (roomed _ _ _ _ (wrote_as e w))
