use lib.Seq.{length-take-le}
use mathlib.Core.Path.{sym}
use Rattle.entries.proofs.Laws.{unread_dropped, wrong_judged, says_judged}
use Rattle.entries.proofs.judge.Goals as goal

pub slice_bounds-judge_wrong-end : goal.slice_bounds-judge_wrong-end
slice_bounds-judge_wrong-end c = sym (length-take-le _ _ (rw c.in-Wrong.is at c.requires.1))

pub slice_bounds-judge_row-end : goal.slice_bounds-judge_row-end
slice_bounds-judge_row-end c = sym (length-take-le _ _ (rw c.in-Says.is at c.requires.1))

pub returns-in-Unread : goal.returns-in-Unread
returns-in-Unread c = rw c.in-Unread.is (unread_dropped _ _ _)

pub returns-in-Wrong : goal.returns-in-Wrong
returns-in-Wrong c = rw c.in-Wrong.is (wrong_judged _ _ _ _ (rw c.in-Wrong.is at c.requires.1) c.judge_wrong.ensures)

pub returns-in-Says : goal.returns-in-Says
returns-in-Says c = rw c.in-Says.is (says_judged _ _ _ _ (rw c.in-Says.is at c.requires.1) _ c.judge_row.ensures)
