-- `comparing::behind_header` meets its contract. Assumes nothing.
use Rattle.comparing.proofs.Walking.{body_differs, body_ends, body_on}
use Rattle.comparing.proofs.behind_header.Goals as goal

pub returns-in-Differs : goal.returns-in-Differs
returns-in-Differs c =
    body_differs _ _ _ c.u16_at.ensures.0 _ c.walk_all.ensures _ c.in-Differs.is

pub returns-in-Ends : goal.returns-in-Ends
returns-in-Ends c = body_ends _ _ _ c.u16_at.ensures.0 _ c.walk_all.ensures c.in-Ends.is

pub returns-in-Same : goal.returns-in-Same
returns-in-Same c =
    body_on _ _ _ c.u16_at.ensures.0 _ c.walk_all.ensures _ _ c.in-Same.is _
    c.sections.ensures
