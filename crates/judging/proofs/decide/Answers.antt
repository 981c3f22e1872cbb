-- `judging::decide` meets its contract. Assumes nothing.
use Rattle.std.proofs.Common.{sym, refl, ◌∙◌}
use Rattle.model.specs.Judging.{form_err, not_auth, bad_sig, bad_time, is_off, step4, step5, decide_tkey, decide}
use Rattle.judging.proofs.decide.Goals as goal

pub returns-then-is_off : goal.returns-then-is_off
unfolding decide step4 step5 is_off not_auth bad_time
returns-then-is_off c =
    λ offer second is owner.
    let mac = sym (c.mac_fits.ensures c.args.m.now c.requires.0.mac) ∙ c.if-mac_fits.true in
    let off = sym c.is_off.ensures ∙ c.if-is_off.true in
    rw (mac, c.if-given.true, off) refl

pub returns-else-is_off : goal.returns-else-is_off
unfolding decide step4 step5 is_off decide_tkey
returns-else-is_off c =
    λ offer second is owner.
    let mac = sym (c.mac_fits.ensures c.args.m.now c.requires.0.mac) ∙ c.if-mac_fits.true in
    let off = sym c.is_off.ensures ∙ c.if-is_off.false in
    rw (mac, c.if-given.true, off) (rw c.if-given.true at (c.decide_rest.ensures offer second is owner))

pub returns-else-given : goal.returns-else-given
unfolding decide step4 not_auth bad_sig
returns-else-given c =
    λ offer second is owner.
    let mac = sym (c.mac_fits.ensures c.args.m.now c.requires.0.mac) ∙ c.if-mac_fits.true in
    rw (mac, c.if-given.false) refl

pub returns-else-mac_fits : goal.returns-else-mac_fits
unfolding decide step4 form_err
returns-else-mac_fits c =
    λ offer second is owner.
    let mac = sym (c.mac_fits.ensures c.args.m.now c.requires.0.mac) ∙ c.if-mac_fits.false in
    rw mac refl
