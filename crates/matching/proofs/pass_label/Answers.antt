-- `matching::pass_label` meets its contract: the name is what is read on from here. Assumes nothing.
use mathlib.Core.Path.{refl, ap, sym, ◌∙◌}
use native.Mathlib.Omega.{arith}
use Rattle.compression.specs.Name.{item_of}
use Rattle.compression.proofs.Laws.{item_fine}
use Rattle.matching.proofs.Pairwise.{pass_points, pass_fails, pass_ends, pass_on, pass_other}
use Rattle.matching.proofs.pass_label.Goals as goal

pub loop-n-init : goal.loop-n-init
loop-n-init c = λ before l f b. refl

pub returns-in-Fails : goal.returns-in-Fails
returns-in-Fails c =
    λ before l. pass_fails _ _ _ _ _ _ c.requires.0 c.loop-n.invariant c.args.label.now before l _
    (c.item_at.ensures ∙ ap item_of c.in-Fails.is)

pub returns-in-Ends : goal.returns-in-Ends
returns-in-Ends c =
    λ before l. pass_ends _ _ _ _ _ _ c.requires.0 c.loop-n.invariant c.args.label.now before l
    (c.item_at.ensures ∙ ap item_of c.in-Ends.is) c.requires.1

pub overflow_add-size : goal.overflow_add-size
overflow_add-size c = omega (arith, item_fine _ _ _ _ (c.item_at.ensures ∙ ap item_of c.in-Label.is))

pub overflow_add-end : goal.overflow_add-end
overflow_add-end c = omega (arith, item_fine _ _ _ _ (c.item_at.ensures ∙ ap item_of c.in-Label.is))

pub slice_bounds-same_name-end : goal.slice_bounds-same_name-end
slice_bounds-same_name-end c = omega (arith, item_fine _ _ _ _ (c.item_at.ensures ∙ ap item_of c.in-Label.is))

pub returns-then-same_name : goal.returns-then-same_name
returns-then-same_name c =
    λ before l. pass_on _ _ _ _ _ _ c.requires.0 c.loop-n.invariant _ before l _ (c.item_at.ensures ∙ ap item_of c.in-Label.is)
    (sym c.same_name.ensures ∙ c.if-same_name.true)

pub returns-in-Label : goal.returns-in-Label
returns-in-Label c =
    λ before l. pass_other _ _ _ _ _ _ c.requires.0 c.loop-n.invariant c.args.label.now before l _
    (c.item_at.ensures ∙ ap item_of c.in-Label.is) (sym c.same_name.ensures ∙ c.if-same_name.false) c.requires.1

pub loop-n-smaller : goal.loop-n-smaller
loop-n-smaller c = omega (arith, item_fine _ _ _ _ (c.item_at.ensures ∙ ap item_of c.in-Points.is))

pub loop-n-preserved : goal.loop-n-preserved
loop-n-preserved c =
    pass_points _ _ _ _ _ _ c.requires.0 c.loop-n.invariant _ (c.item_at.ensures ∙ ap item_of c.in-Points.is)
