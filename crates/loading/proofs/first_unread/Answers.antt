use Rattle.loading.proofs.Ends.{unread_empty, unread_first, unread_later}
use Rattle.loading.proofs.Laws.{first_long}
use lib.Seq.{length-take-le}
use native.Mathlib.Omega.{arith}
use mathlib.Core.Path.{sym, ◌∙◌}
use Rattle.loading.proofs.first_unread.Goals as goal

pub returns-then-is_empty : goal.returns-then-is_empty
returns-then-is_empty c = sym (unread_empty _ (grind arith))

pub slice_bounds-read_clock-end : goal.slice_bounds-read_clock-end
slice_bounds-read_clock-end c = sym (length-take-le _ _ c.line_end-end.ensures.within)

pub unread_below-requires : goal.unread_below-requires
unread_below-requires c = (first_long _ _ c.line_end-end.ensures _ _ c.read_clock.ensures c.in-Some.is, c.line_end-end.ensures.within)

pub returns-in-Some : goal.returns-in-Some
returns-in-Some c = c.unread_below.ensures ∙ sym (unread_later _ _ c.line_end-end.ensures _ c.read_clock.ensures _ c.in-Some.is)

pub returns-in-None : goal.returns-in-None
returns-in-None c = sym (unread_first _ _ c.line_end-end.ensures _ c.read_clock.ensures c.in-None.is)
