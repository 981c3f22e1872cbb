-- `tkey::key_by` meets its contract. Assumes nothing.
use Rattle.tkey.proofs.RecordLaws.{k_none, k_bad, k_one}
use Rattle.tkey.proofs.key_by.Goals as goal

pub returns-in_default : goal.returns-in_default
returns-in_default c = k_none _ _ c.in_default.not-Once

pub returns-in_default-skip_record : goal.returns-in_default-skip_record
returns-in_default-skip_record c = k_bad _ _ _ _ c.skip_record.ensures.read _ _ c.in-Once.is _ c.in_default-skip_record.is

pub returns : goal.returns
returns c = k_one _ _ _ _ c.skip_record.ensures.read _ _ _ _ _ c.in-Ok.is _ _ c.in-Once.is
