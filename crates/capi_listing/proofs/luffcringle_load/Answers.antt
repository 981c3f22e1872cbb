-- `capi_listing::luffcringle_load` meets its contract. Assumes nothing.
use Rattle.capi_listing.proofs.Laws.{load_lent}
use borrow.Author.Rules.{rules}
use Rattle.capi_listing.proofs.luffcringle_load.Goals as goal

pub returns : goal.returns
returns c = load_lent (search rules) (search rules) c.load-e.ensures c.tell_end.ensures
