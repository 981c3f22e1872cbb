-- `receiving::reply_at` meets its contract. Assumes nothing.
use mathlib.Core.Path.{ap}
use lib.ListN.{length}
use native.Mathlib.Omega.{arith}
use Rattle.matching.specs.Compare.{name_standing}
use Rattle.model.specs.Signing.{reply_digest}
use Rattle.octets.proofs.Laws.{then}
use Rattle.digests.proofs.Ends.{unroomed, roomed, mac_refused, mac_passes}
use Rattle.receiving.proofs.Pieces.{reply_size}
use Rattle.receiving.proofs.reply_at.Goals as goal

pub returns-then-mac-gt-LONGEST_MAC : goal.returns-then-mac-gt-LONGEST_MAC
returns-then-mac-gt-LONGEST_MAC c = mac_refused c.args.mac.now _ _ (omega arith)

pub returns-then-out-mac : goal.returns-then-out-mac
returns-then-out-mac c =
    let a = c.args in
    let n = ap length c.name_at-name.ensures.0 in
    let l = reply_size a.m.now a.tsig c.requires a.mac.now (name_standing a.m.now a.tsig.place) in
    mac_passes a.mac.now _ _ (omega arith) _ _ (unroomed _ a.out.now (omega arith))

pub returns : goal.returns
unfolding reply_digest
returns c =
    let w = then c.u16_into-a.ensures.1 (then c.all_into-b.ensures.1 (rw c.name_at-name.ensures.0 at c.digest_at.ensures)) in
    mac_passes c.args.mac.now _ _ (omega arith) _ _ (roomed _ _ _ _ w)
