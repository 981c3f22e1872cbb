-- `capi::luffcringle_new_table` meets its contract. Assumes nothing.
use Rattle.capi.proofs.Laws.{new_lent}
use borrow.Author.Rules.{rules}
use Rattle.capi.proofs.luffcringle_new_table.Goals as goal

pub returns : goal.returns
returns c = new_lent (search rules) (search rules) c.new_table-a.ensures c.tell.ensures
