-- `judging::renewal_of` meets its contract. Assumes nothing.
use Rattle.std.proofs.Common.{sym, refl, ◌∙◌}
use Rattle.model.specs.Judging.{form_err, bad_key, renewal_of}
use Rattle.judging.proofs.renewal_of.Goals as goal

pub returns-in-None : goal.returns-in-None
unfolding renewal_of form_err
returns-in-None c =
    λ offer second is name.
    let own = sym c.is_old_key.ensures ∙ c.if-is_old_key.true in
    rw (own, c.in-None.is) refl

pub returns-in-Some : goal.returns-in-Some
unfolding renewal_of
returns-in-Some c =
    λ offer second is name.
    let own = sym c.is_old_key.ensures ∙ c.if-is_old_key.true in
    rw (own, c.in-Some.is) (c.renewal_keyed.ensures offer is name)

pub returns-else-is_old_key : goal.returns-else-is_old_key
unfolding renewal_of bad_key
returns-else-is_old_key c =
    λ offer second is name.
    let own = sym c.is_old_key.ensures ∙ c.if-is_old_key.false in
    rw own refl
