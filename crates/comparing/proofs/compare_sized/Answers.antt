-- `comparing::compare_sized` meets its contract. Assumes nothing.
use mathlib.Core.Path.{◌∙◌}
use Rattle.comparing.proofs.Verdicts.{scan_fails, scan_same, scan_differs}
use Rattle.comparing.proofs.compare_sized.Goals as goal

pub returns-in-Err : goal.returns-in-Err
returns-in-Err c =
    scan_fails _ _ _ c.scan.result c.scan.ensures _ c.in-Err.is c.verdict_of.ensures

pub returns-in-None : goal.returns-in-None
returns-in-None c =
    scan_same _ _ _ c.scan.result c.scan.ensures _ _ _ _ c.in-Ok.is
    (c.first_difference.ensures ∙ c.in-None.is) c.verdict_of-in-None.ensures

pub returns-in-Some : goal.returns-in-Some
returns-in-Some c =
    scan_differs _ _ _ c.scan.result c.scan.ensures _ _ _ _ c.in-Ok.is _
    (c.first_difference.ensures ∙ c.in-Some.is) c.verdict_of-in-Some.ensures
