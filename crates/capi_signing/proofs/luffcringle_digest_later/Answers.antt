-- `capi_signing::luffcringle_digest_later` meets its contract. Assumes nothing.
use lib.ListN.{length}
use Rattle.capi_signing.proofs.Laws.{left_to, later_error}
use Rattle.capi_signing.proofs.luffcringle_digest_later.Goals as goal

pub returns : goal.returns
returns c = λ error algorithm mac other.
    let a = c.args in
    let e = later_error a.prior_mac.now a.before.now a.message.now a.signed a.fudge a.original_id error algorithm mac other (length a.out.now) in
    left_to (rw (c.numbers-n.ensures, e) at (c.digest_later-a.ensures algorithm mac other)) c.tell.ensures
