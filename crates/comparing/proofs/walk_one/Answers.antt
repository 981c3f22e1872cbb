-- `comparing::walk_one` meets its contract. Assumes nothing.
use Rattle.comparing.proofs.Walking.{both_end, theirs_only, ours_only}
use Rattle.comparing.proofs.walk_one.Goals as goal

pub walk-requires : goal.walk-requires
walk-requires g c =
    ((rw c.in-Some.is at c.name_end.ensures), (rw c.in-Some-name_end-2.is at c.name_end-in-Some.ensures))

pub returns-in-None-name_end : goal.returns-in-None-name_end
returns-in-None-name_end g c =
    both_end _ _ _ (rw c.in-None.is at c.name_end.ensures)
    (rw c.in-None-name_end.is at c.name_end-in-None.ensures)

pub returns-in-Some-name_end : goal.returns-in-Some-name_end
returns-in-Some-name_end g c =
    theirs_only _ _ _ _ (rw c.in-None.is at c.name_end.ensures)
    (rw c.in-Some-name_end.is at c.name_end-in-None.ensures).1

pub returns-in-None-name_end-2 : goal.returns-in-None-name_end-2
returns-in-None-name_end-2 g c =
    ours_only _ _ _ _ (rw c.in-Some.is at c.name_end.ensures).1
    (rw c.in-None-name_end-2.is at c.name_end-in-Some.ensures)
