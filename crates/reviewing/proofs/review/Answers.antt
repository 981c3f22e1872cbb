-- `reviewing::review` meets its contract. Assumes nothing.
use borrow.Author.Rules.{rules}
use Rattle.reviewing.proofs.Laws.{unloaded, reviewed}
use Rattle.reviewing.proofs.review.Goals as goal

pub returns-then-e-ne0 : goal.returns-then-e-ne0
returns-then-e-ne0 c = unloaded _ _ _ (search rules) (search rules) c.load-e.ensures c.if-e-ne0.true

pub returns : goal.returns
returns c = reviewed _ _ _ (search rules) (search rules) c.load-e.ensures c.if-e-ne0.false c.review_on.ensures
