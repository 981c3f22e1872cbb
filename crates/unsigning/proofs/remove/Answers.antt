-- `unsigning::remove` meets its contract. Assumes nothing.
use native.Mathlib.Omega.{arith}
use Rattle.std.proofs.lemmas.Result.{err_from_is_err_and}
use Rattle.digests.proofs.Ends.{unroomed, roomed}
use Rattle.unsigning.proofs.Back.{stopped, goes, stands}
use Rattle.unsigning.proofs.Removing.{removed_as, removed_length}
use Rattle.unsigning.proofs.remove.Goals as goal

pub returns-in_err-tsig : goal.returns-in_err-tsig
returns-in_err-tsig c =
    let p = err_from_is_err_and c.from_residual.result c.from_residual.ensures.1 in
    rw (p.1, p.2, removed_as) (stopped _ _ _ c.read_back.ensures _ c.in_err-tsig.was c.args.out.now)

pub returns-then-out-tsig : goal.returns-then-out-tsig
returns-then-out-tsig c =
    let l = removed_length _ _ (stands c.read_back.ensures c.in_ok-tsig.was).last in
    rw removed_as (goes _ _ _ c.read_back.ensures _ c.in_ok-tsig.was _ _ _ (unroomed _ c.args.out.now (omega arith)))

pub returns : goal.returns
returns c =
    rw removed_as (goes _ _ _ c.read_back.ensures _ c.in_ok-tsig.was _ _ _ (roomed _ _ _ _ c.cut_into.ensures.1))
