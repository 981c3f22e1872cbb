-- `signing::digest_reply` meets its contract. Assumes nothing.
use Rattle.digests.specs.Stamps.{stamp_of}
use Rattle.std.proofs.lemmas.Result.{err_from_is_err_and}
use Rattle.signing.proofs.Ends.{reply_stops}
use Rattle.signing.proofs.digest_reply.Goals as goal

pub returns-in_err-first_refusal : goal.returns-in_err-first_refusal
returns-in_err-first_refusal c = λ own.
    let a = c.args in
    let t = stamp_of a.numbers a.algorithm.now own a.other.now in
    let p = err_from_is_err_and c.from_residual.result c.from_residual.ensures.1 in
    rw (p.1, p.2) (reply_stops _ _ t _ (rw c.in_err-first_refusal.was at c.first_refusal.ensures) a.out.now a.mac.now)
