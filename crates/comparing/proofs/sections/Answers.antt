-- `comparing::sections` meets its contract. Assumes nothing.
use native.Mathlib.Omega.{arith}
use Rattle.comparing.proofs.Walking.{walked_count}
use Rattle.comparing.proofs.sections.Goals as goal

pub returns : goal.returns
returns c =
    walked_count _ _ _ _ _ _ _ _
    (omega (arith, c.u16_at.ensures.0, c.u16_at-2.ensures.0, c.u16_at-3.ensures.0)) c.walk_all.ensures
