-- `resolver_state::holding_by` meets its contract. Assumes nothing.
use Rattle.std.proofs.Common.{◌≢◌, arith}
use borrow.Author.Tests.{ne_eqb}
use Rattle.resolver_state.specs.State.{holding_by}
use Rattle.resolver_state.proofs.holding_by.Goals as goal

pub returns-then-not-adopted : goal.returns-then-not-adopted
unfolding holding_by
returns-then-not-adopted c = rw (c.if-not-adopted.true)

pub returns-in-1 : goal.returns-in-1
unfolding holding_by
returns-in-1 c = simp (c.if-not-adopted.false, c.in-1.is)

pub returns-then-offered : goal.returns-then-offered
unfolding holding_by
returns-then-offered c = simp (c.if-not-adopted.false, c.in-2.is, c.if-offered.true)

pub returns-else-offered : goal.returns-else-offered
unfolding holding_by
returns-else-offered c = simp (c.if-not-adopted.false, c.in-2.is, c.if-offered.false)

pub returns-in_default : goal.returns-in_default
unfolding holding_by
returns-in_default c =
    let n1 : c.args.tag ≢ 1 = omega arith in
    let n2 : c.args.tag ≢ 2 = omega arith in
    simp (c.if-not-adopted.false, ne_eqb _ _ n1, ne_eqb _ _ n2)
