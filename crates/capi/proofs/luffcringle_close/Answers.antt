-- `capi::luffcringle_close` meets its contract. Assumes nothing.
use Rattle.capi.proofs.Laws.{lent}
use Rattle.capi.proofs.luffcringle_close.Goals as goal

pub returns : goal.returns
returns c = lent c.close-a.ensures c.tell.ensures
