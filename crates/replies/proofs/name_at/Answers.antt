-- `replies::name_at` meets its contract. Assumes nothing.
use Rattle.replies.proofs.Answers.{no_name, one_name}
use Rattle.replies.proofs.name_at.Goals as goal

pub returns-in-Err : goal.returns-in-Err
returns-in-Err c = no_name _ _ _ _ c.read_name.ensures _ c.in-Err.is

pub returns-in-Ok : goal.returns-in-Ok
returns-in-Ok c = one_name _ _ _ _ c.read_name.ensures _ _ c.in-Ok.is
