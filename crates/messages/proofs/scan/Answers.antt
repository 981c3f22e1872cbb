-- `messages::scan` meets its contract. Assumes nothing.
use native.Mathlib.Omega.{arith}
use Rattle.std.proofs.lemmas.Result.{err_from_is_err_and}
use Rattle.messages.proofs.Scanning.{headless, questions_stop, records_stop, left_over, whole}
use Rattle.messages.proofs.scan.Goals as goal

pub returns-then-m-lt12 : goal.returns-then-m-lt12
returns-then-m-lt12 c = headless _ (omega arith)

pub returns-in_err-asks : goal.returns-in_err-asks
returns-in_err-asks c =
    let p = err_from_is_err_and c.from_residual.result c.from_residual.ensures.1 in
    rw (p.1, p.2) (questions_stop _ (omega arith) _ (rw (c.u16_at.ensures.0, c.in_err-asks.was) at c.questions.ensures))

pub returns-in_err-seen : goal.returns-in_err-seen
returns-in_err-seen c =
    let p = err_from_is_err_and c.from_residual-in_err-seen.result c.from_residual-in_err-seen.ensures.1 in
    rw (p.1, p.2)
    (records_stop _ (omega arith) _ _ (rw (c.u16_at.ensures.0, c.in_ok-asks.was) at c.questions.ensures) _ (rw c.in_err-seen.was at c.all_records.ensures.0))

pub returns-then-next-m : goal.returns-then-next-m
returns-then-next-m c =
    left_over _ (omega arith) _ _
    (rw (c.u16_at.ensures.0, c.in_ok-asks.was) at c.questions.ensures)
    _ _
    (rw c.in_ok-seen.was at c.all_records.ensures.0) c.if-next-m.true

pub returns : goal.returns
returns c =
    whole _ (omega arith) _ _
    (rw (c.u16_at.ensures.0, c.in_ok-asks.was) at c.questions.ensures)
    _ _
    (rw c.in_ok-seen.was at c.all_records.ensures.0) c.if-next-m.false _
    c.is_request-request.ensures _ (rw c.in_ok-seen.was at c.all_records.ensures.1)
