-- `batches::serve_behind` meets its contract. The tail of the buffer is lent on. Assumes nothing.
use native.Mathlib.Omega.{arith}
use Rattle.model.specs.Batches.{item_call}
use Rattle.batches.proofs.Laws.{behind_it}
use borrow.Author.Rules.{rules}
use Rattle.batches.proofs.serve_behind.Goals as goal

pub returns : goal.returns
returns c =
    let a = c.args in
    let v = c.serve_item in
    behind_it (λ room. item_call a.octets.now room a.x) _ _ _ _ a.replies.now _ a.used _ (omega arith) (search rules) v.ensures
