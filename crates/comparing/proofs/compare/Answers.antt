-- `comparing::compare` meets its contract. Assumes nothing.
use native.Mathlib.Omega.{arith}
use Rattle.comparing.proofs.Verdicts.{neither, theirs_alone, ours_alone, too_short, too_long, sized}
use Rattle.comparing.proofs.compare.Goals as goal

pub returns-then-theirs-eq0 : goal.returns-then-theirs-eq0
returns-then-theirs-eq0 c = neither _ _ _ c.if-ours-eq0.true c.if-theirs-eq0.true c.verdict_of.ensures

pub returns-then-ours-eq0 : goal.returns-then-ours-eq0
returns-then-ours-eq0 c = theirs_alone _ _ _ c.if-ours-eq0.true c.if-theirs-eq0.false c.verdict_of-then-ours-eq0.ensures

pub returns-then-theirs-eq0-2 : goal.returns-then-theirs-eq0-2
returns-then-theirs-eq0-2 c = ours_alone _ _ _ c.if-ours-eq0.false c.if-theirs-eq0-2.true c.verdict_of-then-theirs-eq0-2.ensures

pub returns-then-theirs-lt12 : goal.returns-then-theirs-lt12
returns-then-theirs-lt12 c = too_short _ _ _ c.if-ours-eq0.false c.if-theirs-eq0-2.false c.if-theirs-lt12.true c.verdict_of-then-theirs-lt12.ensures

pub returns-then-theirs-gt65535 : goal.returns-then-theirs-gt65535
returns-then-theirs-gt65535 c = too_long _ _ _ c.if-ours-eq0.false c.if-theirs-eq0-2.false c.if-theirs-gt65535.true c.verdict_of-then-theirs-gt65535.ensures

pub returns : goal.returns
returns c =
    sized _ _ _ c.if-ours-eq0.false c.if-theirs-eq0-2.false (omega arith) (omega arith) c.compare_sized.ensures
