-- `comparing::record_at` meets its contract. Assumes nothing.
use native.Mathlib.Omega.{arith}
use Rattle.comparing.proofs.Laws.{name_ends, record_unread, record_cut, name_stands}
use Rattle.comparing.proofs.Walking.{record_begins}
use Rattle.comparing.proofs.RecordEntry.name_end.Goals as goal

pub overflow_sub-m : goal.overflow_sub-m
overflow_sub-m c = name_ends _ _ _ _ _ c.skip_name.ensures c.in-Ok.is

pub returns-then-m-next-lt10 : goal.returns-then-m-next-lt10
returns-then-m-next-lt10 c =
    record_cut _ _ _ c.skip_name.ensures _ _ c.in-Ok.is
    (omega (arith, name_ends _ _ _ _ _ c.skip_name.ensures c.in-Ok.is))

pub returns-then-m-next : goal.returns-then-m-next
returns-then-m-next c =
    record_cut _ _ _ c.skip_name.ensures _ _ c.in-Ok.is (omega (arith, c.u16_at.ensures))

pub returns-in-Err : goal.returns-in-Err
returns-in-Err c = record_unread _ _ _ c.skip_name.ensures _ c.in-Err.is

pub returns-else-m-next : goal.returns-else-m-next
returns-else-m-next c =
    let s = name_stands _ _ _ c.skip_name.ensures _ _ c.in-Ok.is _ (omega (arith, c.u16_at.ensures)) in
    (s, record_begins _ _ _ s)
