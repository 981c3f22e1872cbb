-- `judging::decide_rest` meets its contract. Assumes nothing.
use Rattle.std.proofs.Common.{sym, refl, ap, ◌∙◌, w64}
use mir.ValLaws.{to_z-of_z}
use Rattle.model.specs.declared.Decision.TheVariants.{Passed}
use Rattle.model.specs.Judging.{form_err, not_auth, partial_revoke, step7, step8}
use Rattle.judging.proofs.Skew.{near}
use Rattle.judging.proofs.decide_rest.Goals as goal

pub decide_tkey-requires : goal.decide_tkey-requires
decide_tkey-requires c =
    let pre = c.requires in
    let fits = rw c.in-Some.is at pre.1 in
    (fits.0, fits.1, pre.2, pre.3)

pub returns-in-None : goal.returns-in-None
unfolding form_err
returns-in-None c =
    λ offer second is owner.
    rw (c.if-c.true, c.in-None.is) refl

pub returns-in-Some : goal.returns-in-Some
returns-in-Some c =
    λ offer second is owner.
    rw (c.if-c.true, c.in-Some.is) (c.decide_tkey.ensures offer second is)

pub returns-then-is_refused : goal.returns-then-is_refused
unfolding step7 not_auth partial_revoke
returns-then-is_refused c =
    λ offer second is owner.
    let refused = sym c.is_refused.ensures ∙ c.if-is_refused.true in
    rw (c.if-c.false, refused) refl

pub returns-else-is_refused : goal.returns-else-is_refused
unfolding step7 step8
returns-else-is_refused c =
    λ offer second is owner.
    let pre = c.requires in
    let refused = sym c.is_refused.ensures ∙ c.if-is_refused.false in
    rw (c.if-c.false, refused, c.skew_of-skew.ensures) (ap Passed (to_z-of_z w64 _ (near _ _ pre.0.signed pre.4)))
