-- `records::expand_record` meets its contract. Assumes nothing.
use Rattle.records.proofs.expand_record.Goals as goal

pub record_behind-requires : goal.record_behind-requires
record_behind-requires c = c.expand_name.ensures.within

pub returns : goal.returns
returns c = c.record_behind.ensures _ _ c.expand_name.ensures
