-- `capi::luffcringle_revoke` meets its contract. Assumes nothing.
use Rattle.capi.proofs.Laws.{lent}
use Rattle.capi.proofs.luffcringle_revoke.Goals as goal

pub returns : goal.returns
returns c = let r = c.revoke-a.ensures in (lent r.0 c.tell.ensures, r.1)
