-- `matching::same_rest` meets its contract: the whole is the same where what is left from here is. Assumes nothing.
use mathlib.Core.Path.{ap, sym, ◌∙◌}
use native.Mathlib.Omega.{arith}
use borrow.Author.Rules.{rules}
use Rattle.compression.specs.Name.{item_of}
use Rattle.compression.proofs.Laws.{item_fine}
use Rattle.matching.proofs.Comparing.{comparing_starts, compared_fails, compared_ends, compared_short, compared_other, comparing_label, comparing_points}
use Rattle.matching.proofs.same_rest.Goals as goal

pub loop-n-init : goal.loop-n-init
loop-n-init c = comparing_starts _ _ _ _ _ (search rules)

pub returns-in-Fails : goal.returns-in-Fails
returns-in-Fails c = λ before l. compared_fails _ _ _ _ _ _ _ _ _ c.loop-n.invariant before l _ (c.item_at.ensures ∙ ap item_of c.in-Fails.is)

pub returns-in-Ends : goal.returns-in-Ends
returns-in-Ends c = λ before l. c.same_name.ensures ∙ compared_ends _ _ _ _ _ _ _ _ _ c.loop-n.invariant before l (c.item_at.ensures ∙ ap item_of c.in-Ends.is)

pub overflow_add-size : goal.overflow_add-size
overflow_add-size c = omega (arith, item_fine _ _ _ _ (c.item_at.ensures ∙ ap item_of c.in-Label.is))

pub returns-then-b-i : goal.returns-then-b-i
returns-then-b-i c = λ before l. compared_short _ _ _ _ _ _ _ _ _ c.loop-n.invariant before l _ (c.item_at.ensures ∙ ap item_of c.in-Label.is) c.if-b-i.true

pub overflow_add-end : goal.overflow_add-end
overflow_add-end c = omega (arith, item_fine _ _ _ _ (c.item_at.ensures ∙ ap item_of c.in-Label.is))

pub slice_bounds-same_name-end-in-Label : goal.slice_bounds-same_name-end-in-Label
slice_bounds-same_name-end-in-Label c = omega (arith, item_fine _ _ _ _ (c.item_at.ensures ∙ ap item_of c.in-Label.is))

pub overflow_add-len : goal.overflow_add-len
overflow_add-len c = omega (arith, item_fine _ _ _ _ (c.item_at.ensures ∙ ap item_of c.in-Label.is))

pub loop-n-smaller-then-same_name : goal.loop-n-smaller-then-same_name
loop-n-smaller-then-same_name c = omega (arith, item_fine _ _ _ _ (c.item_at.ensures ∙ ap item_of c.in-Label.is))

pub loop-n-preserved-then-same_name : goal.loop-n-preserved-then-same_name
loop-n-preserved-then-same_name c = comparing_label _ _ _ _ _ _ _ _ _ c.loop-n.invariant _ (c.item_at.ensures ∙ ap item_of c.in-Label.is) (omega arith) (sym c.same_name-in-Label.ensures ∙ c.if-same_name.true)

pub returns-else-same_name : goal.returns-else-same_name
returns-else-same_name c = λ before l. compared_other _ _ _ _ _ _ _ _ _ c.loop-n.invariant before l _ (c.item_at.ensures ∙ ap item_of c.in-Label.is) (omega arith) (sym c.same_name-in-Label.ensures ∙ c.if-same_name.false)

pub loop-n-smaller : goal.loop-n-smaller
loop-n-smaller c = omega (arith, item_fine _ _ _ _ (c.item_at.ensures ∙ ap item_of c.in-Points.is))

pub loop-n-preserved : goal.loop-n-preserved
loop-n-preserved c = comparing_points _ _ _ _ _ _ _ _ _ c.loop-n.invariant _ (c.item_at.ensures ∙ ap item_of c.in-Points.is)
