-- `messages::one_more` meets its contract. Assumes nothing.
use mathlib.Core.Path.{refl}
use Rattle.messages.proofs.Counts.{one_more_two}
use Rattle.messages.proofs.one_more.Goals as goal

pub returns-then-count-eq0 : goal.returns-then-count-eq0
returns-then-count-eq0 c = rw c.if-count-eq0.true refl

pub returns-else-count-eq0 : goal.returns-else-count-eq0
returns-else-count-eq0 c = one_more_two c.args.count c.if-count-eq0.false
