-- `receiving::received_request` meets its contract. Assumes nothing.
use Rattle.std.proofs.lemmas.Result.{err_from_is_err_and}
use Rattle.unsigning.proofs.Back.{stopped, goes}
use Rattle.receiving.proofs.Back.{request_as}
use Rattle.receiving.proofs.received_request.Goals as goal

pub returns-in_err-tsig : goal.returns-in_err-tsig
returns-in_err-tsig c =
    let p = err_from_is_err_and c.from_residual.result c.from_residual.ensures.1 in
    rw (p.1, p.2, request_as) (stopped _ _ _ c.read_back.ensures _ c.in_err-tsig.was c.args.out.now)

pub returns : goal.returns
returns c = rw request_as (goes _ _ _ c.read_back.ensures _ c.in_ok-tsig.was _ _ _ c.request_at.ensures)
