-- `server::message_ruled` meets its contract. Assumes nothing.
use mathlib.Core.Path.{refl, ap}
use Rattle.outcomes.specs.Gate.{number_in}
use Rattle.outcomes.proofs.Laws.{refused_number, refused_answer}
use Rattle.server.proofs.Laws.{whole_refused, whole_rest}
use Rattle.server.proofs.message_ruled.Goals as goal

pub returns-in-Err : goal.returns-in-Err
returns-in-Err c =
    whole_refused _ _ _ _ _ c.enter_ruled.ensures _ _ refl _ (refused_number c.in-Err.is) (refused_answer c.in-Err.is c.answered.ensures)

pub message_passed-requires : goal.message_passed-requires
message_passed-requires c = c.enter_ruled.ensures.passed (ap number_in c.in-Ok.is)

pub returns-in-Ok : goal.returns-in-Ok
returns-in-Ok c =
    whole_rest _ _ _ _ _ c.enter_ruled.ensures _ _ refl _ (ap number_in c.in-Ok.is) c.message_passed.ensures
