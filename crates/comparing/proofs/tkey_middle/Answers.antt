-- `comparing::tkey_middle` meets its contract. Assumes nothing.
use native.Mathlib.Omega.{arith}
use Rattle.comparing.proofs.DataLaws.{middle_cut, middle_differs, middle_on}
use Rattle.comparing.proofs.tkey_middle.Goals as goal

pub returns-then-c-at-lt14 : goal.returns-then-c-at-lt14
returns-then-c-at-lt14 c = middle_cut _ _ _ _ c.requires.1 (omega arith) _ c.rest.ensures

pub returns-in-None : goal.returns-in-None
returns-in-None c =
    middle_on _ _ _ _ c.requires.1 (omega arith) c.fields.result c.fields.ensures c.in-None.is
    _ c.u16_at.ensures.0 c.tkey_end.result c.tkey_end.ensures

pub returns-in-Some : goal.returns-in-Some
returns-in-Some c =
    middle_differs _ _ _ _ c.requires.1 (omega arith) _ c.fields.ensures _ c.in-Some.is
