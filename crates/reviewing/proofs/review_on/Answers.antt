-- `reviewing::review_on` meets its contract. Assumes nothing.
use mathlib.Core.Path.{sym}
use lib.Seq.{length-take-le}
use Rattle.reviewing.proofs.review_on.Goals as goal

pub slice_bounds-compare-end-2 : goal.slice_bounds-compare-end-2
slice_bounds-compare-end-2 c = sym (length-take-le _ _ c.write_ours-n.ensures.within)

pub returns : goal.returns
returns c = rw c.write_ours-n.ensures.is at c.compare.ensures
