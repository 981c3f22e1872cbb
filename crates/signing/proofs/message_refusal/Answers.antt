-- `signing::message_refusal` meets its contract. Assumes nothing.
use mathlib.Core.Path.{refl}
use Rattle.std.proofs.lemmas.Result.{err_from_is_err_and}
use Rattle.signing.proofs.Refusals.{unread, signed_already, unsigned_yet}
use Rattle.signing.proofs.message_refusal.Goals as goal

pub returns-in_err-c : goal.returns-in_err-c
returns-in_err-c c =
    let p = err_from_is_err_and c.from_residual.result c.from_residual.ensures.1 in
    rw (p.1, p.2) (unread _ _ c.read.ensures _ c.in_err-c.was)

pub returns-in-Nobody : goal.returns-in-Nobody
returns-in-Nobody c = unsigned_yet _ _ c.read.ensures _ c.in_ok-c.was c.in-Nobody.is

pub returns-in-Ill : goal.returns-in-Ill
returns-in-Ill c = signed_already _ _ c.read.ensures _ c.in_ok-c.was _ c.in-Ill.is refl

pub returns-in-Key : goal.returns-in-Key
returns-in-Key c = signed_already _ _ c.read.ensures _ c.in_ok-c.was _ c.in-Key.is refl
