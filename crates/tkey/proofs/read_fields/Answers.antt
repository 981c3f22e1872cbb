-- `tkey::read_fields` meets its contract. Assumes nothing.
use Rattle.tkey.proofs.DataLaws.{k_old, k_whole}
use Rattle.tkey.proofs.read_fields.Goals as goal

pub returns-in_err-old : goal.returns-in_err-old
returns-in_err-old c =
    rw c.from_residual.ensures
    (k_old _ _ c.requires.0 _ c.requires.1 _ _ _ c.requires.3 _ c.u16_at-mode.ensures _ c.read_old.ensures c.in_err-old.was)

pub returns : goal.returns
returns c =
    k_whole _ _ c.requires.0 _ c.requires.1 _ _ _ c.requires.3 _ c.u16_at-mode.ensures _ c.read_old.ensures _ c.in_ok-old.was _ _ c.u32_at.ensures c.u32_at-2.ensures
