-- `operator::enrol` meets its contract. Assumes nothing.
use mathlib.Core.Path.{ap}
use Rattle.outcomes.specs.Gate.{number_in}
use Rattle.outcomes.proofs.Laws.{serve_refused, serve_rest, refused_number, refused_answer}
use Rattle.operator.proofs.Laws.{enrol_refused, enrol_passes}
use Rattle.operator.proofs.enrol.Goals as goal

pub returns-in-Err : goal.returns-in-Err
returns-in-Err c =
    let e = c.enter.ensures in
    serve_refused _ _ _ _ _ _ e (refused_number c.in-Err.is) (refused_answer c.in-Err.is c.answered-in-Err.ensures) (enrol_refused _ _ _ e.says _ _ _ _ (refused_number c.in-Err.is))

pub enrol_passed-requires : goal.enrol_passed-requires
enrol_passed-requires c = c.enter.ensures.passed (ap number_in c.in-Ok.is)

pub returns-in-Ok : goal.returns-in-Ok
returns-in-Ok c =
    let e = c.enter.ensures in
    let r = c.enrol_passed.ensures in
    rw c.answered.ensures (serve_rest _ _ _ _ _ _ e _ (ap number_in c.in-Ok.is) r (enrol_passes _ _ _ e.says _ _ _ _ (ap number_in c.in-Ok.is)))
