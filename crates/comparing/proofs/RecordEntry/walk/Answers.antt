-- `comparing::record_fields` meets its contract. Assumes nothing.
use native.Mathlib.Omega.{arith}
use Rattle.comparing.proofs.Walking.{same_size, record_other, record_differs, record_data_differs, record_same}
use Rattle.comparing.proofs.RecordEntry.walk.Goals as goal

pub returns-then-not-same_names_at : goal.returns-then-not-same_names_at
returns-then-not-same_names_at c =
    record_other _ _ _ _ _ _ _ c.requires.0.0 c.requires.1.0 _ c.same_names_at.ensures c.if-not-same_names_at.true

pub record_data-requires : goal.record_data-requires
record_data-requires c =
    (omega (arith, c.requires.0.0.fits), omega (arith, c.requires.1.0.fits), same_size _ _ _ _ c.fields.result c.fields.ensures c.in-None.is)

pub returns-in-Some : goal.returns-in-Some
returns-in-Some c =
    record_differs _ _ _ _ _ _ _ c.requires.0.0 c.requires.1.0 _ c.same_names_at.ensures c.if-not-same_names_at.false
    c.fields.result c.fields.ensures _ c.in-Some.is

pub returns-in-Some-record_data : goal.returns-in-Some-record_data
returns-in-Some-record_data c =
    record_data_differs _ _ _ _ _ _ _ c.requires.0.0 c.requires.1.0 _ c.same_names_at.ensures c.if-not-same_names_at.false
    c.fields.result c.fields.ensures c.in-None.is c.record_data.result
    c.record_data.ensures _ c.in-Some-record_data.is

pub returns-in-None-record_data : goal.returns-in-None-record_data
returns-in-None-record_data c =
    record_same _ _ _ _ _ _ _ c.requires.0.0 c.requires.1.0 _ c.same_names_at.ensures c.if-not-same_names_at.false
    c.fields.result c.fields.ensures c.in-None.is c.record_data.result
    c.record_data.ensures _ c.u16_at-size.ensures.0 c.in-None-record_data.is
