-- `matching::first_label` meets its contract: the name is what is read from here. Assumes nothing.
use mathlib.Core.Path.{ap, ◌∙◌}
use native.Mathlib.Omega.{arith}
use Rattle.compression.specs.Name.{item_of}
use Rattle.compression.proofs.Laws.{item_fine}
use Rattle.matching.proofs.Comparing.{whole_alike, first_fails, first_root, first_is, first_points}
use Rattle.matching.proofs.first_label.Goals as goal

pub loop-n-init : goal.loop-n-init
loop-n-init c = whole_alike _ _

pub returns-in-Fails : goal.returns-in-Fails
returns-in-Fails c = first_fails _ _ _ c.loop-n.invariant _ (c.item_at.ensures ∙ ap item_of c.in-Fails.is)

pub returns-in-Ends : goal.returns-in-Ends
returns-in-Ends c = first_root _ _ _ c.loop-n.invariant (c.item_at.ensures ∙ ap item_of c.in-Ends.is)

pub overflow_add-result : goal.overflow_add-result
overflow_add-result c = omega (arith, item_fine _ _ _ _ (c.item_at.ensures ∙ ap item_of c.in-Label.is))

pub returns-in-Label : goal.returns-in-Label
returns-in-Label c = first_is _ _ _ c.loop-n.invariant _ (c.item_at.ensures ∙ ap item_of c.in-Label.is)

pub loop-n-smaller : goal.loop-n-smaller
loop-n-smaller c = omega (arith, (item_fine _ _ _ _ (c.item_at.ensures ∙ ap item_of c.in-Points.is)).0)

pub loop-n-preserved : goal.loop-n-preserved
loop-n-preserved c = first_points _ _ _ c.loop-n.invariant _ (c.item_at.ensures ∙ ap item_of c.in-Points.is)
