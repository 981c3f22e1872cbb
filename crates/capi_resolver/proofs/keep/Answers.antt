-- `capi_resolver::keep` meets its contract. Assumes nothing.
use Rattle.capi_resolver.proofs.Laws.{kept_refused, kept_done}
use Rattle.capi_resolver.proofs.keep.Goals as goal

pub returns-then-number-ne0 : goal.returns-then-number-ne0
returns-then-number-ne0 c = kept_refused _ _ _ _ c.if-number-ne0.true

pub returns : goal.returns
returns c = kept_done _ _ _ _ _ _ c.if-number-ne0.false c.store.ensures
