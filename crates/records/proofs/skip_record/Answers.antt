-- `records::skip_record` meets its contract. Assumes nothing.
use Rattle.records.proofs.skip_record.Goals as goal

pub record_behind-requires : goal.record_behind-requires
record_behind-requires c = c.skip_name.ensures.read.within

pub returns : goal.returns
returns c = record { out = _; read = c.record_behind.ensures _ _ c.skip_name.ensures.read }
