-- `asking::asks` meets its contract. Assumes nothing.
use Rattle.std.proofs.lemmas.Result.{err_from_is_err_and}
use Rattle.asking.proofs.Laws.{shows_as, asks_unread, asks_response, asks_query}
use Rattle.asking.proofs.asks.Goals as goal

pub returns-in_err-c : goal.returns-in_err-c
returns-in_err-c c =
    let p = err_from_is_err_and c.from_residual.result c.from_residual.ensures.1 in
    rw (p.1, p.2) (asks_unread _ _ c.read.ensures _ c.in_err-c.was)

pub returns-then-c : goal.returns-then-c
returns-then-c c = asks_response _ _ c.read.ensures _ c.in_ok-c.was c.if-c.true

pub returns : goal.returns
returns c = shows_as (asks_query _ _ c.read.ensures _ c.in_ok-c.was c.if-c.false) c.asked_by.ensures
