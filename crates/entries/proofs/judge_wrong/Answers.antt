use Rattle.entries.proofs.Laws.{wrong_dropped, wrong_at}
use Rattle.entries.proofs.judge_wrong.Goals as goal

pub returns-in-Err : goal.returns-in-Err
returns-in-Err c = wrong_dropped _ _ _ _ c.place_for.ensures _ c.in-Err.is

pub returns-in-Ok : goal.returns-in-Ok
returns-in-Ok c = wrong_at _ _ _ _ c.place_for.ensures _ c.in-Ok.is
