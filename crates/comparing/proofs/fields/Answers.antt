-- `comparing::fields` meets its contract. The loop's invariant: what differs first is what differs first in the widths that are left. Assumes nothing.
use mathlib.Core.Path.{sym, ◌∙◌}
use native.Mathlib.Omega.{arith}
use Rattle.comparing.proofs.Laws.{passing_starts, passing_ends, width_fits, passing_other, passing_on}
use Rattle.comparing.proofs.fields.Goals as goal

pub loop-width-init : goal.loop-width-init
loop-width-init c = passing_starts _ _ _ _ _ _

pub overflow_add-i : goal.overflow_add-i
overflow_add-i c = omega (arith, c.loop-width.invariant.left)

pub overflow_add-j : goal.overflow_add-j
overflow_add-j c = omega (arith, c.loop-width.invariant.left)

pub overflow_add-result : goal.overflow_add-result
overflow_add-result c = omega (arith, c.loop-width.invariant.left)

pub returns-then-not-same_part : goal.returns-then-not-same_part
returns-then-not-same_part c =
    passing_other _ _ _ _ _ _ _ _ c.loop-width.invariant _ c.wide-n.ensures.0 c.loop-width-test.true
    (sym c.same_part.ensures ∙ c.if-not-same_part.true)

pub overflow_add-past : goal.overflow_add-past
overflow_add-past c =
    omega
    (arith, width_fits _ _ _ _ _ _ _ _ c.loop-width.invariant _ c.wide-n.ensures.0 c.loop-width-test.true, c.loop-width.invariant.left)

pub loop-width-preserved : goal.loop-width-preserved
loop-width-preserved c =
    passing_on _ _ _ _ _ _ _ _ c.loop-width.invariant _ c.wide-n.ensures.0 c.loop-width-test.true
    (sym c.same_part.ensures ∙ c.if-not-same_part.false)

pub returns : goal.returns
returns c = passing_ends _ _ _ _ _ _ _ _ c.loop-width.invariant (omega arith)
