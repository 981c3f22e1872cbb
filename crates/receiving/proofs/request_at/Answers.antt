-- `receiving::request_at` meets its contract. Assumes nothing.
use mathlib.Core.Path.{ap}
use lib.ListN.{length}
use native.Mathlib.Omega.{arith}
use Rattle.matching.specs.Compare.{name_standing}
use Rattle.digests.proofs.Ends.{unroomed, roomed}
use Rattle.receiving.proofs.Pieces.{request_size}
use Rattle.receiving.proofs.request_at.Goals as goal

pub returns-then-out-tsig : goal.returns-then-out-tsig
returns-then-out-tsig c =
    let a = c.args in
    let n = ap length c.name_at-name.ensures.0 in
    let l = request_size a.m.now a.tsig c.requires (name_standing a.m.now a.tsig.place) in
    unroomed _ a.out.now (omega arith)

pub returns : goal.returns
returns c = roomed _ _ _ _ (rw c.name_at-name.ensures.0 at c.digest_at.ensures)
