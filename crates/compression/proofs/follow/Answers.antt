-- `compression::follow` meets its contract: whatever the octets before are, the whole name is what is left from here. Assumes nothing.
use mathlib.Core.Path.{refl, ap, ◌∙◌}
use native.Mathlib.Omega.{arith}
use borrow.Author.Rules.{rules}
use Rattle.compression.specs.Name.{item_of}
use Rattle.compression.proofs.Laws.{item_fine, ends_last}
use Rattle.compression.proofs.Skipping.{going_starts, going_fails, going_ends, going_label, going_points}
use Rattle.compression.proofs.follow.Goals as goal

pub loop-failed-init : goal.loop-failed-init
loop-failed-init c = (search rules, λ before h. going_starts _ _ _ _ _ before h)

pub returns-in-Fails : goal.returns-in-Fails
returns-in-Fails c = λ before h. going_fails _ _ _ _ _ _ c.loop-failed.invariant.0 (c.loop-failed.invariant.1 before h) _ (c.item_at.ensures ∙ ap item_of c.in-Fails.is) refl

pub returns-in-Ends : goal.returns-in-Ends
returns-in-Ends c = λ before h. going_ends _ _ _ _ _ _ c.loop-failed.invariant.0 (c.loop-failed.invariant.1 before h) _ (c.item_at.ensures ∙ ap item_of c.in-Ends.is) (λ o. refl) (search rules)

pub overflow_add-place : goal.overflow_add-place
overflow_add-place c = omega (arith, item_fine _ _ _ _ (c.item_at.ensures ∙ ap item_of c.in-Label.is))

pub overflow_add-place-in-Label : goal.overflow_add-place-in-Label
overflow_add-place-in-Label c = omega (arith, item_fine _ _ _ _ (c.item_at.ensures ∙ ap item_of c.in-Label.is))

pub overflow_add-len : goal.overflow_add-len
overflow_add-len c = omega (arith, item_fine _ _ _ _ (c.item_at.ensures ∙ ap item_of c.in-Label.is))

pub overflow_add-len-in-Label : goal.overflow_add-len-in-Label
overflow_add-len-in-Label c = omega (arith, item_fine _ _ _ _ (c.item_at.ensures ∙ ap item_of c.in-Label.is))

pub loop-failed-smaller-in-Label : goal.loop-failed-smaller-in-Label
loop-failed-smaller-in-Label c = omega (arith, item_fine _ _ _ _ (c.item_at.ensures ∙ ap item_of c.in-Label.is))

pub loop-failed-preserved-in-Label : goal.loop-failed-preserved-in-Label
loop-failed-preserved-in-Label c = (omega (arith, item_fine _ _ _ _ (c.item_at.ensures ∙ ap item_of c.in-Label.is)), λ before h. going_label _ _ _ _ _ _ c.loop-failed.invariant.0 (c.loop-failed.invariant.1 before h) _ (c.item_at.ensures ∙ ap item_of c.in-Label.is))

pub loop-failed-smaller : goal.loop-failed-smaller
loop-failed-smaller c = omega (arith, item_fine _ _ _ _ (c.item_at.ensures ∙ ap item_of c.in-Points.is))

pub loop-failed-preserved : goal.loop-failed-preserved
loop-failed-preserved c = (search rules, λ before h. going_points _ _ _ _ _ _ c.loop-failed.invariant.0 (c.loop-failed.invariant.1 before h) _ (c.item_at.ensures ∙ ap item_of c.in-Points.is) (ends_last _ _))
