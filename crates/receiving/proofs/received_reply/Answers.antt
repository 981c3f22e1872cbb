-- `receiving::received_reply` meets its contract. Assumes nothing.
use Rattle.std.proofs.lemmas.Result.{err_from_is_err_and}
use Rattle.unsigning.proofs.Back.{stopped, goes}
use Rattle.receiving.proofs.Back.{reply_as}
use Rattle.receiving.proofs.received_reply.Goals as goal

pub returns-in_err-tsig : goal.returns-in_err-tsig
returns-in_err-tsig c =
    let p = err_from_is_err_and c.from_residual.result c.from_residual.ensures.1 in
    rw (p.1, p.2, reply_as) (stopped _ _ _ c.read_back.ensures _ c.in_err-tsig.was c.args.out.now)

pub returns : goal.returns
returns c = rw reply_as (goes _ _ _ c.read_back.ensures _ c.in_ok-tsig.was _ _ _ c.reply_at.ensures)
