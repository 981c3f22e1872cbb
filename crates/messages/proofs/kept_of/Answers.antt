-- `messages::kept_of` meets its contract. Assumes nothing.
use Rattle.messages.proofs.Counts.{kept_none, kept_one, kept_more}
use Rattle.messages.proofs.kept_of.Goals as goal

pub returns-then-h-eq0 : goal.returns-then-h-eq0
returns-then-h-eq0 c = kept_none _ _ _ c.if-h-eq0.true

pub returns-then-h-eq1 : goal.returns-then-h-eq1
returns-then-h-eq1 c = let h = c.args.h in kept_one h.section h.place h.count c.if-h-eq1.true

pub returns : goal.returns
returns c = let h = c.args.h in kept_more h.section h.place h.count c.if-h-eq0.false c.if-h-eq1.false
