-- `compression::expand_name` meets its contract: the reading of the whole name is the reading from here. Assumes nothing.
use mathlib.Core.Path.{ap, ◌∙◌}
use native.Mathlib.Omega.{arith}
use borrow.Author.Rules.{rules}
use Rattle.compression.specs.Name.{item_of}
use Rattle.compression.proofs.Laws.{item_fine}
use Rattle.compression.proofs.Skipping.{writing_starts, writing_fails, writing_ends, writing_label, writing_points}
use Rattle.compression.proofs.expand_name.Goals as goal

pub loop-failed-init : goal.loop-failed-init
loop-failed-init c = writing_starts _ _ _ (search rules)

pub returns-in-Fails : goal.returns-in-Fails
returns-in-Fails c = writing_fails _ _ _ _ _ _ _ c.loop-failed.invariant _ (c.item_at.ensures ∙ ap item_of c.in-Fails.is)

pub returns-in-Ends : goal.returns-in-Ends
returns-in-Ends c = rw c.unwrap_or.ensures (writing_ends _ _ _ _ _ _ _ c.loop-failed.invariant (c.item_at.ensures ∙ ap item_of c.in-Ends.is))

pub overflow_add-n : goal.overflow_add-n
overflow_add-n c = omega (arith, item_fine _ _ _ _ (c.item_at.ensures ∙ ap item_of c.in-Label.is))

pub copy-requires : goal.copy-requires
copy-requires c =
    let f = item_fine _ _ _ _ (c.item_at.ensures ∙ ap item_of c.in-Label.is) in
    search rules

pub overflow_add-place : goal.overflow_add-place
overflow_add-place c = omega (arith, item_fine _ _ _ _ (c.item_at.ensures ∙ ap item_of c.in-Ends.is))

pub overflow_add-place-in-Label : goal.overflow_add-place-in-Label
overflow_add-place-in-Label c = omega (arith, item_fine _ _ _ _ (c.item_at.ensures ∙ ap item_of c.in-Label.is))

pub overflow_add-place-in-Label-2 : goal.overflow_add-place-in-Label-2
overflow_add-place-in-Label-2 c = omega (arith, item_fine _ _ _ _ (c.item_at.ensures ∙ ap item_of c.in-Label.is))

pub overflow_add-place-in-Points : goal.overflow_add-place-in-Points
overflow_add-place-in-Points c = omega (arith, item_fine _ _ _ _ (c.item_at.ensures ∙ ap item_of c.in-Points.is))

pub overflow_add-len : goal.overflow_add-len
overflow_add-len c = omega (arith, item_fine _ _ _ _ (c.item_at.ensures ∙ ap item_of c.in-Label.is))

pub overflow_add-len-in-Label : goal.overflow_add-len-in-Label
overflow_add-len-in-Label c = omega (arith, item_fine _ _ _ _ (c.item_at.ensures ∙ ap item_of c.in-Label.is))

pub loop-failed-smaller-in-Label : goal.loop-failed-smaller-in-Label
loop-failed-smaller-in-Label c = omega (arith, item_fine _ _ _ _ (c.item_at.ensures ∙ ap item_of c.in-Label.is))

pub loop-failed-preserved-in-Label : goal.loop-failed-preserved-in-Label
loop-failed-preserved-in-Label c = writing_label _ _ _ _ _ _ _ c.loop-failed.invariant _ _ (c.item_at.ensures ∙ ap item_of c.in-Label.is) c.copy.ensures.0 c.copy.ensures.1

pub loop-failed-smaller : goal.loop-failed-smaller
loop-failed-smaller c = omega (arith, item_fine _ _ _ _ (c.item_at.ensures ∙ ap item_of c.in-Points.is))

pub loop-failed-preserved : goal.loop-failed-preserved
loop-failed-preserved c = rw c.unwrap_or-in-Points.ensures (writing_points _ _ _ _ _ _ _ c.loop-failed.invariant _ (c.item_at.ensures ∙ ap item_of c.in-Points.is))
