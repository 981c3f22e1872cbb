-- `signing::first_refusal` meets its contract. Assumes nothing.
use mathlib.Core.Path.{◌∙◌, sym}
use native.Mathlib.Omega.{arith}
use Rattle.std.proofs.lemmas.Result.{err_from_is_err_and}
use Rattle.signing.proofs.Refusals.{stopped, unnamed, unhashed, untimed, all_pass}
use Rattle.signing.specs.Assembling.{Bare}
use Rattle.signing.proofs.first_refusal.Goals.{then-not-wire_name-via-then-not-wire_name, then-not-wire_name-via-else-not-wire_name+then-not-wire_name-2}
use Rattle.signing.proofs.first_refusal.Goals as goal

pub returns-in_err-message_refusal : goal.returns-in_err-message_refusal
returns-in_err-message_refusal c =
    let p = err_from_is_err_and c.from_residual.result c.from_residual.ensures.1 in
    rw (p.1, p.2) (stopped _ _ _ _ _ (rw c.in_err-message_refusal.was at c.message_refusal.ensures))

pub returns-then-not-wire_name : goal.returns-then-not-wire_name
returns-then-not-wire_name c =
    let bare : Bare c.args.m.now 0 = rw c.in_ok-message_refusal.was at c.message_refusal.ensures in
    elim c.then-not-wire_name.branch [
      | then-not-wire_name-via-then-not-wire_name w ↦ unnamed _ _ _ _ bare (sym c.wire_name.ensures ∙ w.if-not-wire_name.true)
      | then-not-wire_name-via-else-not-wire_name+then-not-wire_name-2 w ↦
          unhashed _ _ _ _ bare (sym c.wire_name.ensures ∙ w.if-not-wire_name.false) (sym w.wire_name-else-not-wire_name.ensures ∙ w.if-not-wire_name-2.true)
    ]

pub returns-then-signed-ge281474976710656 : goal.returns-then-signed-ge281474976710656
returns-then-signed-ge281474976710656 c = untimed _ _ _ _ (rw c.in_ok-message_refusal.was at c.message_refusal.ensures) (sym c.wire_name.ensures ∙ c.if-not-wire_name.false) (sym c.wire_name-else-not-wire_name.ensures ∙ c.if-not-wire_name-2.false) (omega arith)

pub returns : goal.returns
returns c = all_pass _ _ _ _ (rw c.in_ok-message_refusal.was at c.message_refusal.ensures) (sym c.wire_name.ensures ∙ c.if-not-wire_name.false) (sym c.wire_name-else-not-wire_name.ensures ∙ c.if-not-wire_name-2.false) (omega arith)
