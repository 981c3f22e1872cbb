-- `capi::luffcringle_enrol` meets its contract. Assumes nothing.
use Rattle.capi.proofs.Laws.{lent}
use Rattle.capi.proofs.luffcringle_enrol.Goals as goal

pub returns : goal.returns
returns c = lent c.enrol-a.ensures c.tell.ensures
