-- `tkey::tkey_at` meets its contract. Assumes nothing.
use Rattle.tkey.proofs.RecordLaws.{t_bad, t_within, t_ill, t_one}
use Rattle.tkey.proofs.tkey_at.Goals as goal

pub returns-in_default : goal.returns-in_default
returns-in_default c = t_bad _ _ _ _ c.skip_record.ensures.read _ c.in_default.is

pub read_data-requires : goal.read_data-requires
read_data-requires c = t_within _ _ _ _ c.skip_record.ensures.read _ _ _ _ _ c.in-Ok.is

pub returns-in_err-fields : goal.returns-in_err-fields
returns-in_err-fields c =
    rw c.from_residual.ensures (t_ill _ _ _ _ c.skip_record.ensures.read _ _ _ _ _ c.in-Ok.is _ c.read_data.ensures c.in_err-fields.was)

pub returns : goal.returns
returns c = t_one _ _ _ _ c.skip_record.ensures.read _ _ _ _ _ c.in-Ok.is _ c.read_data.ensures _ c.in_ok-fields.was
