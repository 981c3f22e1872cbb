-- `judging::renewal_keyed` meets its contract. Assumes nothing.
use Rattle.std.proofs.Common.{sym, refl, ◌∙◌}
use Rattle.model.specs.Judging.{bad_alg}
use Rattle.judging.proofs.renewal_keyed.Goals as goal

pub returns-in-Some : goal.returns-in-Some
returns-in-Some c = λ offer is name. sym ((rw c.in-Some.is at c.fit_error.ensures) _)

pub returns-in-None : goal.returns-in-None
unfolding bad_alg
returns-in-None c =
    λ offer is name.
    let named = sym (rw c.part_of.ensures.0 at c.algorithm_named.ensures) ∙ c.in-None.is in
    sym ((rw c.in_default.is at c.fit_error.ensures) _ ∙ rw named refl)

pub returns-in-Some-algorithm_named : goal.returns-in-Some-algorithm_named
returns-in-Some-algorithm_named c =
    λ offer is name.
    let named = sym (rw c.part_of.ensures.0 at c.algorithm_named.ensures) ∙ c.in-Some-algorithm_named.is in
    sym ((rw c.in_default.is at c.fit_error.ensures) _ ∙ rw named (sym (c.grant.ensures offer is c.args.m.now name)))
