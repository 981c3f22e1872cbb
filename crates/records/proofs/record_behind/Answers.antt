-- `records::record_behind` meets its contract. Assumes nothing.
use native.Mathlib.Omega.{arith}
use Rattle.std.proofs.lemmas.Result.{err_from_is_err_and}
use Rattle.records.proofs.Laws.{on_bad, on_cut, on_short, on_whole}
use Rattle.records.proofs.record_behind.Goals as goal

pub returns-in_err-len : goal.returns-in_err-len
returns-in_err-len c = λ at out n.
    let p = err_from_is_err_and c.from_residual.result c.from_residual.ensures.1 in
    rw (p.1, p.2) (on_bad _ _ _ _ n _ c.in_err-len.was)

pub overflow_sub-m : goal.overflow_sub-m
overflow_sub-m c = let w = rw c.in_ok-len.was at c.requires in omega arith

pub returns-then-m-next-lt10 : goal.returns-then-m-next-lt10
returns-then-m-next-lt10 c = λ at out n. on_cut _ _ _ _ n _ _ c.in_ok-len.was (omega arith)

pub returns-then-m-next : goal.returns-then-m-next
returns-then-m-next c = λ at out n.
    on_short _ _ _ _ n _ _ c.in_ok-len.was
    (omega arith) _ c.u16_at-size.ensures (omega arith)

pub returns : goal.returns
returns c = λ at out n.
    on_whole _ _ _ _ n _ _
    c.in_ok-len.was (omega arith) _ c.u16_at-size.ensures _
    _ _ c.u16_at.ensures
    c.u16_at-2.ensures c.u32_at.ensures (omega arith)
