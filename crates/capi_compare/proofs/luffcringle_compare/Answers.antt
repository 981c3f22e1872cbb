-- `capi_compare::luffcringle_compare` meets its contract. Assumes nothing.
use Rattle.capi_compare.proofs.luffcringle_compare.Goals as goal

pub returns : goal.returns
returns c = rw c.review-v.ensures at c.tell.ensures
