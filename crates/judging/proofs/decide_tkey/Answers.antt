-- `judging::decide_tkey` meets its contract. Assumes nothing.
use Rattle.std.proofs.Common.{sym, refl, ◌∙◌}
use Rattle.model.specs.Judging.{not_auth, bad_mode, partial_revoke, step7, decide_tkey}
use Rattle.matching.specs.Compare.{name_standing}
use Rattle.judging.proofs.decide_tkey.Goals as goal

pub returns-then-is_refused : goal.returns-then-is_refused
unfolding decide_tkey step7 not_auth partial_revoke
returns-then-is_refused c =
    λ offer second is.
    let mode = sym c.mode_of-mode.ensures in
    let old = sym c.renews_or_adopts.ensures in
    let refused = sym c.is_refused.ensures ∙ c.if-is_refused.true in
    rw (mode, old, refused) refl

pub returns-in-Renewal : goal.returns-in-Renewal
unfolding decide_tkey step7
returns-in-Renewal c =
    λ offer second is.
    let mode = sym c.mode_of-mode.ensures in
    let old = sym c.renews_or_adopts.ensures in
    let refused = sym c.is_refused.ensures ∙ c.if-is_refused.false in
    let a = c.args in
    rw (mode, old, refused, c.in-Renewal.is) (c.renewal_of.ensures offer second is (name_standing a.m.now a.place))

pub returns-in-Adoption : goal.returns-in-Adoption
unfolding decide_tkey step7
returns-in-Adoption c =
    λ offer second is.
    let mode = sym c.mode_of-mode.ensures in
    let old = sym c.renews_or_adopts.ensures in
    let refused = sym c.is_refused.ensures ∙ c.if-is_refused.false in
    rw (mode, old, refused, c.in-Adoption.is) c.adoption_of.ensures

pub returns-in-Deletion : goal.returns-in-Deletion
unfolding decide_tkey step7
returns-in-Deletion c =
    λ offer second is.
    let mode = sym c.mode_of-mode.ensures in
    let old = sym c.renews_or_adopts.ensures in
    let refused = sym c.is_refused.ensures ∙ c.if-is_refused.false in
    rw (mode, old, refused, c.in-Deletion.is) (c.deletion_of.ensures _ refl)

pub returns-in-Reserved : goal.returns-in-Reserved
unfolding decide_tkey step7 bad_mode
returns-in-Reserved c =
    λ offer second is.
    let mode = sym c.mode_of-mode.ensures in
    let old = sym c.renews_or_adopts.ensures in
    let refused = sym c.is_refused.ensures ∙ c.if-is_refused.false in
    rw (mode, old, refused, c.in-Reserved.is) refl

pub returns-in-Unsupported : goal.returns-in-Unsupported
unfolding decide_tkey step7 bad_mode
returns-in-Unsupported c =
    λ offer second is.
    let mode = sym c.mode_of-mode.ensures in
    let old = sym c.renews_or_adopts.ensures in
    let refused = sym c.is_refused.ensures ∙ c.if-is_refused.false in
    rw (mode, old, refused, c.in-Unsupported.is) refl
