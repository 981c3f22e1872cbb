-- `granted::data_at` meets its contract. Assumes nothing.
use Rattle.granted.proofs.Laws.{at_bad, at_within, at_record}
use Rattle.granted.proofs.data_at.Goals as goal

pub returns-in_default : goal.returns-in_default
returns-in_default c = at_bad _ _ _ c.skip_record.ensures _ c.in_default.is

pub data_in-requires : goal.data_in-requires
data_in-requires c = at_within _ _ _ c.skip_record.ensures _ _ _ _ _ c.in-Ok.is

pub returns : goal.returns
returns c = at_record _ _ _ c.skip_record.ensures _ _ _ _ _ c.in-Ok.is _ c.data_in.ensures
