-- `capi_listing::luffcringle_mend` meets its contract. Assumes nothing.
use Rattle.capi_listing.proofs.Laws.{mend_lent}
use borrow.Author.Rules.{rules}
use Rattle.capi_listing.proofs.luffcringle_mend.Goals as goal

pub returns : goal.returns
returns c = mend_lent (search rules) (search rules) c.mend-m.ensures c.tell_mending.ensures
