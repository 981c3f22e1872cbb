-- `comparing::question_at` meets its contract. Assumes nothing.
use native.Mathlib.Omega.{arith}
use Rattle.comparing.proofs.Laws.{name_ends, question_unread, question_cut, name_stands}
use Rattle.comparing.proofs.Walking.{question_begins}
use Rattle.comparing.proofs.QuestionEntry.name_end.Goals as goal

pub overflow_sub-m : goal.overflow_sub-m
overflow_sub-m c = name_ends _ _ _ _ _ c.skip_name.ensures c.in-Ok.is

pub returns-then-m-next-lt4 : goal.returns-then-m-next-lt4
returns-then-m-next-lt4 c =
    question_cut _ _ _ c.skip_name.ensures _ _ c.in-Ok.is
    (omega (arith, name_ends _ _ _ _ _ c.skip_name.ensures c.in-Ok.is))

pub returns-in-Err : goal.returns-in-Err
returns-in-Err c = question_unread _ _ _ c.skip_name.ensures _ c.in-Err.is

pub returns-else-m-next-lt4 : goal.returns-else-m-next-lt4
returns-else-m-next-lt4 c =
    let s = name_stands _ _ _ c.skip_name.ensures _ _ c.in-Ok.is 4 (omega (arith, name_ends _ _ _ _ _ c.skip_name.ensures c.in-Ok.is)) in
    (s, question_begins _ _ _ s)
