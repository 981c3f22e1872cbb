-- `ordering::order` meets its contract. The loop's invariant: the names are ordered as what is left of them. Assumes nothing.
use mathlib.Core.Path.{◌≡◌, refl, sym, ap, ◌∙◌}
use native.Mathlib.Omega.{arith}
use lib.ListN.{get_or}
use Rattle.std.specs.Ordering.{nat_cmp}
use Rattle.std.specs.declared.cmp.Ordering.TheVariants.{Equal}
use Rattle.model.specs.Names.{lower_of}
use Rattle.ordering.proofs.Laws.{order_after, order_step, order_end, cmp_same, decides, is_equal}
use Rattle.ordering.proofs.order.Goals as goal
use Rattle.ordering.proofs.order.Goals.{then-a-i+else-is_ne, else-a-i}

pub loop-i-init : goal.loop-i-init
loop-i-init c = (omega arith, omega arith, order_after _ _ c.same_front-i.result c.same_front-i.ensures.2)

pub returns-then-is_ne : goal.returns-then-is_ne
returns-then-is_ne c =
    let o : c.cmp-order.result ≡ nat_cmp (lower_of (get_or c.args.a.now c.loop-i.i 0)) (lower_of (get_or c.args.b.now c.loop-i.i 0)) = cc in
    sym (c.loop-i.invariant.2 ∙ order_step _ _ c.loop-i.i (omega arith) (omega arith) ∙ rw (← o) (decides _ _ (cc)))

pub loop-i-preserved : goal.loop-i-preserved
loop-i-preserved c =
    let same : nat_cmp (lower_of (get_or c.args.a.now c.loop-i.i 0)) (lower_of (get_or c.args.b.now c.loop-i.i 0)) ≡ Equal =
    elim c.if-a-i.branch [
      | then-a-i+else-is_ne w ↦ is_equal _ (cc)
      | else-a-i w ↦ cmp_same _ _ (ap lower_of w.if-a-i.false)
    ]
    in
    (omega arith, omega arith, c.loop-i.invariant.2 ∙ order_step _ _ c.loop-i.i (omega arith) (omega arith) ∙ rw same refl)

pub returns : goal.returns
returns c = c.cmp.ensures ∙ sym (c.loop-i.invariant.2 ∙ order_end _ _ c.loop-i.i (omega arith) (omega arith) (λ p q. omega arith))
