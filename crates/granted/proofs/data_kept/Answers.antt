-- `granted::data_kept` meets its contract. Assumes nothing.
use Rattle.granted.proofs.Laws.{by_once}
use Rattle.granted.proofs.data_kept.Goals as goal

pub returns-in-Once : goal.returns-in-Once
returns-in-Once c = by_once _ _ _ _ c.in-Once.is _ c.data_at.ensures
