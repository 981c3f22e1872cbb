-- `granted::data_awaited` meets its contract. Assumes nothing.
use Rattle.granted.proofs.Laws.{lost, wrong_id, right_id}
use Rattle.granted.proofs.data_awaited.Goals as goal

pub returns-then-answered-id : goal.returns-then-answered-id
returns-then-answered-id c = wrong_id _ _ _ _ _ _ _ _ _ c.in-Some.is _ c.id-answered.ensures.0 c.if-answered-id.true

pub returns-in-None : goal.returns-in-None
returns-in-None c = lost _ _ _ _ _ _ _ c.in-None.is

pub returns-else-answered-id : goal.returns-else-answered-id
returns-else-answered-id c = right_id _ _ _ _ _ _ _ _ _ c.in-Some.is _ c.id-answered.ensures.0 c.if-answered-id.false _ c.renews-renewing.ensures _ c.data_signed.ensures
