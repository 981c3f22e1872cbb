-- `resolver_replies::check_awaited` meets its contract. Assumes nothing.
use Rattle.resolver_replies.proofs.Hearing.{lost, wrong_id, right_id}
use Rattle.resolver_replies.proofs.check_awaited.Goals as goal

pub returns-in_default : goal.returns-in_default
returns-in_default c = lost _ _ _ _ _ _ c.in_default.is

pub returns-then-answered-request : goal.returns-then-answered-request
returns-then-answered-request c = wrong_id _ _ _ _ _ _ _ c.in-Some.is _ c.id-answered.ensures.0 c.if-answered-request.true

pub returns : goal.returns
returns c = right_id _ _ _ _ _ _ _ c.in-Some.is _ c.id-answered.ensures.0 _ c.if-answered-request.false (c.check_signed.ensures _ _)
