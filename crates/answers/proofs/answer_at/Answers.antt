-- `answers::answer_at` meets its contract. Assumes nothing.
use native.Mathlib.Omega.{arith}
use Rattle.answers.proofs.AnswerLaws.{a_bad, a_within, a_ill, a_fits, a_one}
use Rattle.answers.proofs.answer_at.Goals as goal

pub part_of-d-requires : goal.part_of-d-requires
part_of-d-requires c = a_within _ _ _ _ c.expand_record.ensures _ _ _ _ _ c.in-Ok.is

pub fields_of-fields-requires : goal.fields_of-fields-requires
fields_of-fields-requires c =
    let f = a_fits _ _ _ _ c.expand_record.ensures _ _ _ _ _ c.in-Ok.is _ c.part_of-d.ensures.0 _
    c.layout_of.ensures _ _ _ c.in-Some.is in
    omega arith

pub returns-in-Err : goal.returns-in-Err
returns-in-Err c = a_bad _ _ _ _ c.expand_record.ensures _ c.in-Err.is

pub returns-in-None : goal.returns-in-None
returns-in-None c =
    a_ill _ _ _ _ c.expand_record.ensures _ _ _ _ _ c.in-Ok.is _ c.part_of-d.ensures.0 _
    c.layout_of.ensures c.in-None.is

pub returns-in-Some : goal.returns-in-Some
returns-in-Some c =
    a_one _ _ _ _ c.expand_record.ensures _ _ _ _ _ c.in-Ok.is _ c.part_of-d.ensures.0 _
    c.layout_of.ensures _ _ _ c.in-Some.is _ c.fields_of-fields.ensures
