-- `operator::revoke` meets its contract. Assumes nothing.
use mathlib.Core.Path.{refl, ap}
use Rattle.model.specs.Calls.{revoke, revoke_on, time_of}
use Rattle.outcomes.specs.Gate.{number_in}
use Rattle.outcomes.proofs.Laws.{serve_refused, serve_rest, refused_number, refused_answer, call_refused, call_passed, own_none, own_whole}
use Rattle.operator.proofs.revoke.Goals as goal

pub returns-in-Err : goal.returns-in-Err
unfolding revoke_on time_of
returns-in-Err c =
    let e = c.enter.ensures in
    (serve_refused _ _ _ _ _ _ e (refused_number c.in-Err.is) (refused_answer c.in-Err.is c.answered-in-Err.ensures) (call_refused _ _ _ e.says (revoke _ _) refl (refused_number c.in-Err.is)), own_whole _ _ _ _ _ _ e (own_none _ _))

pub revoke_passed-requires : goal.revoke_passed-requires
revoke_passed-requires c = c.enter.ensures.passed (ap number_in c.in-Ok.is)

pub returns-in-Ok : goal.returns-in-Ok
unfolding revoke_on time_of
returns-in-Ok c =
    let e = c.enter.ensures in
    let r = c.revoke_passed.ensures in
    (rw c.answered.ensures (serve_rest _ _ _ _ _ _ e _ (ap number_in c.in-Ok.is) r.0 (call_passed _ _ _ e.says (revoke _ _) refl (ap number_in c.in-Ok.is))), own_whole _ _ _ _ _ _ e r.1)
