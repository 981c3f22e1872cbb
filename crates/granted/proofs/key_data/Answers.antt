-- `granted::key_data` meets its contract. Assumes nothing.
use Rattle.granted.proofs.Laws.{unread, well_formed_lem, whole_from}
use Rattle.granted.proofs.key_data.Goals as goal

pub data_awaited-requires : goal.data_awaited-requires
data_awaited-requires c = whole_from _ c.read.ensures c.in-Ok.is

pub returns-in_default : goal.returns-in_default
returns-in_default c = unread _ _ _ _ c.read.ensures _ c.in_default.is

pub returns : goal.returns
returns c = well_formed_lem _ _ _ _ c.read.ensures _ c.in-Ok.is _ c.data_awaited.ensures
