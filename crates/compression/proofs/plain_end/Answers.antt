-- `compression::plain_end` meets its contract: the whole name is read on from here, after the octets between. Assumes nothing.
use mathlib.Core.Path.{ap, ◌∙◌}
use native.Mathlib.Omega.{arith}
use Rattle.compression.specs.Name.{item_of}
use Rattle.compression.proofs.Laws.{item_fine}
use Rattle.compression.proofs.Plain.{plainly_starts, plainly_ends, plainly_label}
use Rattle.compression.proofs.plain_end.Goals as goal

pub loop-n-init : goal.loop-n-init
loop-n-init c = plainly_starts _ _

pub overflow_add-result : goal.overflow_add-result
overflow_add-result c = omega (arith, item_fine _ _ _ _ (c.item_at.ensures ∙ ap item_of c.in-Ends.is))

pub returns-in-Ends : goal.returns-in-Ends
returns-in-Ends c = plainly_ends _ _ _ c.loop-n.invariant (c.item_at.ensures ∙ ap item_of c.in-Ends.is)

pub overflow_add-place : goal.overflow_add-place
overflow_add-place c = omega (arith, item_fine _ _ _ _ (c.item_at.ensures ∙ ap item_of c.in-Label.is))

pub overflow_add-place-in-Label : goal.overflow_add-place-in-Label
overflow_add-place-in-Label c = omega (arith, item_fine _ _ _ _ (c.item_at.ensures ∙ ap item_of c.in-Label.is))

pub loop-n-smaller : goal.loop-n-smaller
loop-n-smaller c = omega (arith, c.loop-n.invariant.from, item_fine _ _ _ _ (c.item_at.ensures ∙ ap item_of c.in-Label.is))

pub loop-n-preserved : goal.loop-n-preserved
loop-n-preserved c = plainly_label _ _ _ c.loop-n.invariant _ (c.item_at.ensures ∙ ap item_of c.in-Label.is)
