use Rattle.model.specs.Calls.{LINE}
use borrow.Author.Tests.{ne_eqb}
use mathlib.Core.Path.{refl}
use Rattle.loading.proofs.mend_refused.Goals as goal

pub returns-then-number-eq18 : goal.returns-then-number-eq18
unfolding LINE
returns-then-number-eq18 c = rw c.if-number-eq18.true refl

pub returns-else-number-eq18 : goal.returns-else-number-eq18
unfolding LINE
returns-else-number-eq18 c = rw (ne_eqb _ _ c.if-number-eq18.false) refl
