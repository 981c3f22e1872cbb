-- `locating::find_expanded` meets its contract: the name that stands there is what was written. Assumes nothing.
use Rattle.locating.proofs.Standing.{never_bad, written_all, standing_written, sought_after}
use Rattle.locating.proofs.find_expanded.Goals as goal

pub slice_bounds-after_label-end : goal.slice_bounds-after_label-end
slice_bounds-after_label-end c = written_all _ _ c.expand_name.ensures c.in-Ok.is

pub returns-in-Err : goal.returns-in-Err
returns-in-Err c = absurd (never_bad _ _ c.expand_name.ensures c.requires.1 c.in-Err.is)

pub returns-in-Ok : goal.returns-in-Ok
returns-in-Ok c = sought_after _ _ (standing_written _ _ c.expand_name.ensures c.in-Ok.is) c.after_label.ensures c.find.ensures
