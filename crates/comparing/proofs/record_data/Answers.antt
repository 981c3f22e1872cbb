-- `comparing::record_data` meets its contract. Assumes nothing.
use mathlib.Core.Path.{sym, ◌∙◌}
use native.Mathlib.Omega.{arith}
use Rattle.comparing.proofs.Laws.{part_length}
use Rattle.comparing.proofs.DataLaws.{data_standing}
use Rattle.comparing.proofs.record_data.Goals as goal

pub data_fields-requires : goal.data_fields-requires
data_fields-requires c =
    let x = part_length _ _ _ _ c.part_at-c.ensures (omega (arith, c.u16_at-size.ensures.0, c.requires.0)) in
    let y = part_length _ _ _ _ c.part_at-d.ensures (omega (arith, c.u16_at-size.ensures.0, c.requires)) in
    (x ∙ sym y, omega (arith, y, c.u16_at-size.ensures.0, c.requires))

pub returns : goal.returns
returns c =
    data_standing _ _ _ _ _ _ _ _ c.data_fields.result c.u16_at.ensures.0 c.u16_at-size.ensures.0 c.requires.2
    c.part_at-c.ensures c.part_at-d.ensures c.data_fields.ensures
