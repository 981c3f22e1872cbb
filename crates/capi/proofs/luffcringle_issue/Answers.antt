-- `capi::luffcringle_issue` meets its contract. Assumes nothing.
use Rattle.capi.proofs.Laws.{lent}
use Rattle.capi.proofs.luffcringle_issue.Goals as goal

pub returns : goal.returns
returns c = let r = c.issue-a.ensures in (lent r.0 c.tell.ensures, r.1)
