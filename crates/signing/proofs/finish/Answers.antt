-- `signing::finish` meets its contract. Assumes nothing.
use Rattle.digests.specs.Stamps.{stamp_of}
use Rattle.std.proofs.lemmas.Result.{err_from_is_err_and}
use Rattle.signing.proofs.Ends.{finish_stops}
use Rattle.signing.proofs.finish.Goals as goal

pub returns-in_err-first_refusal : goal.returns-in_err-first_refusal
returns-in_err-first_refusal c =
    let a = c.args in
    let t = stamp_of a.numbers a.algorithm.now a.mac.now a.other.now in
    let p = err_from_is_err_and c.from_residual.result c.from_residual.ensures.1 in
    rw (p.1, p.2) (finish_stops _ _ t _ (rw c.in_err-first_refusal.was at c.first_refusal.ensures) a.out.now)
