-- `resolver_state::request_by` meets its contract. Assumes nothing.
use Rattle.std.proofs.Common.{◌≢◌, arith}
use borrow.Author.Tests.{ne_eqb}
use Rattle.resolver_state.specs.State.{request_by}
use Rattle.resolver_state.proofs.request_by.Goals as goal

pub returns-in-1 : goal.returns-in-1
unfolding request_by
returns-in-1 c = simp (c.sent.ensures, c.in-1.is)

pub returns-in-2 : goal.returns-in-2
unfolding request_by
returns-in-2 c = simp (c.sent-in-2.ensures, c.in-2.is)

pub returns-in-3 : goal.returns-in-3
unfolding request_by
returns-in-3 c = simp (c.sent-in-3.ensures, c.in-3.is)

pub returns-in-4 : goal.returns-in-4
unfolding request_by
returns-in-4 c = simp (c.sent-in-4.ensures, c.in-4.is)

pub returns-in_default : goal.returns-in_default
unfolding request_by
returns-in_default c =
    let n1 : c.args.tag ≢ 1 = omega arith in
    let n2 : c.args.tag ≢ 2 = omega arith in
    let n3 : c.args.tag ≢ 3 = omega arith in
    let n4 : c.args.tag ≢ 4 = omega arith in
    simp (ne_eqb _ _ n1, ne_eqb _ _ n2, ne_eqb _ _ n3, ne_eqb _ _ n4)
