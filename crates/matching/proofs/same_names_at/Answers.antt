-- `matching::same_names_at` meets its contract: the names are the same where what is left of each is. Assumes nothing.
use mathlib.Core.Path.{ap, ◌∙◌}
use native.Mathlib.Omega.{arith}
use borrow.Author.Rules.{rules}
use Rattle.compression.specs.Name.{item_of}
use Rattle.compression.proofs.Laws.{item_fine}
use Rattle.matching.proofs.Pairwise.{seg_labelled, both_starts, both_fails, both_ends, both_points, both_other, both_on}
use Rattle.matching.proofs.same_names_at.Goals as goal

pub loop-k-init : goal.loop-k-init
loop-k-init c = both_starts _ _ _ _

pub returns-in-Fails : goal.returns-in-Fails
returns-in-Fails c = both_fails _ _ _ _ _ _ _ _ _ c.loop-k.invariant _ (c.item_at.ensures ∙ ap item_of c.in-Fails.is)

pub returns-in-Ends : goal.returns-in-Ends
returns-in-Ends c =
    c.same_rest.ensures c.loop-k.invariant.others c.loop-k.invariant.counted_others ∙ both_ends _ _ _ _ _ _ _ _ _ c.loop-k.invariant
    (c.item_at.ensures ∙ ap item_of c.in-Ends.is)

pub overflow_add-size : goal.overflow_add-size
overflow_add-size c = omega (arith, item_fine _ _ _ _ (c.item_at.ensures ∙ ap item_of c.in-Label.is))

pub overflow_add-end : goal.overflow_add-end
overflow_add-end c = omega (arith, item_fine _ _ _ _ (c.item_at.ensures ∙ ap item_of c.in-Label.is))

pub slice_bounds-pass_label-end : goal.slice_bounds-pass_label-end
slice_bounds-pass_label-end c = omega (arith, item_fine _ _ _ _ (c.item_at.ensures ∙ ap item_of c.in-Label.is))

pub pass_label-requires : goal.pass_label-requires
pass_label-requires c = (search rules, seg_labelled _ _ _ _ _ (c.item_at.ensures ∙ ap item_of c.in-Label.is))

pub returns-in-None : goal.returns-in-None
returns-in-None c =
    both_other _ _ _ _ _ _ _ _ _ c.loop-k.invariant _ (c.item_at.ensures ∙ ap item_of c.in-Label.is)
    (rw c.in-None.is at (c.pass_label.ensures c.loop-k.invariant.others c.loop-k.invariant.counted_others))

pub overflow_add-len : goal.overflow_add-len
overflow_add-len c =
    omega (arith, item_fine _ _ _ _ (c.item_at.ensures ∙ ap item_of c.in-Label.is))

pub loop-k-smaller-in-Some : goal.loop-k-smaller-in-Some
loop-k-smaller-in-Some c =
    omega (arith, item_fine _ _ _ _ (c.item_at.ensures ∙ ap item_of c.in-Label.is))

pub loop-k-preserved-in-Some : goal.loop-k-preserved-in-Some
loop-k-preserved-in-Some c =
    both_on _ _ _ _ _ _ _ _ _ c.loop-k.invariant _ (c.item_at.ensures ∙ ap item_of c.in-Label.is) _ _
    (rw c.in-Some.is at (c.pass_label.ensures c.loop-k.invariant.others c.loop-k.invariant.counted_others))

pub loop-k-smaller : goal.loop-k-smaller
loop-k-smaller c = omega (arith, item_fine _ _ _ _ (c.item_at.ensures ∙ ap item_of c.in-Points.is))

pub loop-k-preserved : goal.loop-k-preserved
loop-k-preserved c =
    both_points _ _ _ _ _ _ _ _ _ c.loop-k.invariant _ (c.item_at.ensures ∙ ap item_of c.in-Points.is)
