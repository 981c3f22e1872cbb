-- `signing::digest_request` meets its contract. Assumes nothing.
use Rattle.digests.specs.Stamps.{stamp_of}
use Rattle.std.proofs.lemmas.Result.{err_from_is_err_and}
use Rattle.signing.proofs.Ends.{request_stops}
use Rattle.signing.proofs.digest_request.Goals as goal

pub returns-in_err-first_refusal : goal.returns-in_err-first_refusal
returns-in_err-first_refusal c = λ mac.
    let a = c.args in
    let t = stamp_of a.numbers a.algorithm.now mac a.other.now in
    let p = err_from_is_err_and c.from_residual.result c.from_residual.ensures.1 in
    rw (p.1, p.2) (request_stops _ _ t _ (rw c.in_err-first_refusal.was at c.first_refusal.ensures) a.out.now)
