-- `tkey::read_data` meets its contract. Assumes nothing.
use Rattle.tkey.proofs.DataLaws.{k_ill}
use Rattle.tkey.proofs.read_data.Goals as goal

pub returns-in_err-layout : goal.returns-in_err-layout
returns-in_err-layout c = rw c.from_residual.ensures (k_ill _ _ c.requires _ c.part_of-d.ensures.0 _ c.layout_of.ensures c.in_err-layout.was)

pub read_fields-requires : goal.read_fields-requires
read_fields-requires c = (c.requires, c.part_of-d.ensures.0, c.part_of-d.ensures.1, rw c.in_ok-layout.was at c.layout_of.ensures)
