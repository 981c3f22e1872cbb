-- `names::same_front` meets its contract. The loop's invariant: the contract, of what has been compared. Assumes nothing.
use mathlib.Core.Path.{refl, sym, ◌∙◌}
use native.Mathlib.Omega.{arith}
use borrow.Author.Rules.{rules}
use Rattle.names.proofs.Fronts.{eight}
use Rattle.names.proofs.same_front.Goals as goal

pub loop-i-init : goal.loop-i-init
loop-i-init c = (search rules, refl)

pub returns-then-not-same_eight : goal.returns-then-not-same_eight
returns-then-not-same_eight c = (omega arith, omega arith, c.loop-i.invariant.1)

pub loop-i-preserved : goal.loop-i-preserved
loop-i-preserved c =
    let l = c.loop-i in
    (omega arith, eight _ _ l.i (omega arith) (omega arith) l.invariant.1 (sym c.same_eight.ensures ∙ c.if-not-same_eight.false))

pub returns : goal.returns
returns c = (omega arith, omega arith, c.loop-i.invariant.1)
