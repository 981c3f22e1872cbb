-- `records::skip_question` meets its contract. Assumes nothing.
use native.Mathlib.Omega.{arith}
use Rattle.std.proofs.lemmas.Result.{err_from_is_err_and}
use Rattle.records.proofs.QuestionLaws.{q_within, q_bad, q_cut, q_whole}
use Rattle.records.proofs.skip_question.Goals as goal

pub returns-in_err-len : goal.returns-in_err-len
returns-in_err-len c =
    let p = err_from_is_err_and c.from_residual.result c.from_residual.ensures.1 in
    rw (p.1, p.2) (record { out = _; read = q_bad _ _ _ _ c.skip_name.ensures.read _ c.in_err-len.was })

pub overflow_sub-m : goal.overflow_sub-m
overflow_sub-m c = q_within _ _ _ _ c.skip_name.ensures.read _ _ c.in_ok-len.was

pub returns-then-m-next-lt4 : goal.returns-then-m-next-lt4
returns-then-m-next-lt4 c = record { out = _; read = q_cut _ _ _ _ c.skip_name.ensures.read _ _ c.in_ok-len.was (omega arith) }

pub returns : goal.returns
returns c =
    record {
      out = _;
      read = q_whole _ _ _ _ c.skip_name.ensures.read _ _ c.in_ok-len.was
          (omega arith) _ _ c.u16_at.ensures c.u16_at-2.ensures;
    }
