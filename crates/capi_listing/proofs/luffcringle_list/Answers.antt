-- `capi_listing::luffcringle_list` meets its contract. Assumes nothing.
use Rattle.capi_listing.proofs.Laws.{list_lent}
use Rattle.capi_listing.proofs.luffcringle_list.Goals as goal

pub returns : goal.returns
returns c = list_lent c.list-l.ensures c.tell_listed.ensures
