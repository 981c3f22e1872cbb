-- `comparing::first_difference` meets its contract. Assumes nothing.
use Rattle.comparing.proofs.Walking.{header_differs, later_differs, none_differs, all_same}
use Rattle.comparing.proofs.first_difference.Goals as goal

pub returns-in-Some : goal.returns-in-Some
returns-in-Some c = header_differs _ _ c.fields.result c.fields.ensures _ c.in-Some.is

pub returns-in-Differs : goal.returns-in-Differs
returns-in-Differs c =
    later_differs _ _ c.fields.result c.fields.ensures c.in-None.is _
    c.behind_header.ensures _ c.in-Differs.is

pub returns-in-Ends : goal.returns-in-Ends
returns-in-Ends c =
    none_differs _ _ c.fields.result c.fields.ensures c.in-None.is _
    c.behind_header.ensures c.in-Ends.is

pub returns-in-Same : goal.returns-in-Same
returns-in-Same c =
    all_same _ _ c.fields.result c.fields.ensures c.in-None.is _
    c.behind_header.ensures _ _ c.in-Same.is
