use Rattle.loading.proofs.Laws.{mend_empty, first_long, first_read, first_unread_lem}
use lib.Seq.{length-take-le}
use native.Mathlib.Omega.{arith}
use mathlib.Core.Path.{sym}
use Rattle.loading.proofs.read_into.Goals as goal

pub returns-then-is_empty : goal.returns-then-is_empty
returns-then-is_empty c = mend_empty _ (grind arith) _ _ _

pub slice_bounds-read_clock-end : goal.slice_bounds-read_clock-end
slice_bounds-read_clock-end c = sym (length-take-le _ _ c.line_end-end.ensures.within)

pub read_below-requires : goal.read_below-requires
read_below-requires c = (c.requires.0, c.requires.1, first_long _ _ c.line_end-end.ensures _ _ c.read_clock.ensures c.in-Some.is, c.line_end-end.ensures.within)

pub returns-in-Some : goal.returns-in-Some
returns-in-Some c = first_read _ _ c.line_end-end.ensures _ _ c.read_clock.ensures c.in-Some.is _ _ _ _ _ c.read_below.ensures

pub returns-in-None : goal.returns-in-None
returns-in-None c = first_unread_lem _ _ c.line_end-end.ensures _ c.read_clock.ensures c.in-None.is _ _ _
