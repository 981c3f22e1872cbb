-- `signing::digest_later` meets its contract. Assumes nothing.
use native.Mathlib.Omega.{arith}
use Rattle.std.proofs.lemmas.Result.{err_from_is_err_and}
use Rattle.digests.specs.Stamps.{stamp_of}
use Rattle.signing.proofs.Later.{later_stops, later_late, later_goes}
use Rattle.signing.proofs.digest_later.Goals as goal

pub returns-in_err-message_refusal : goal.returns-in_err-message_refusal
returns-in_err-message_refusal c = λ algorithm mac other.
    let a = c.args in
    let p = err_from_is_err_and c.from_residual.result c.from_residual.ensures.1 in
    rw (p.1, p.2) (later_stops _ _ _ (stamp_of a.numbers algorithm mac other) _ _ (rw c.in_err-message_refusal.was at c.message_refusal.ensures))

pub returns-then-numbers-ge281474976710656 : goal.returns-then-numbers-ge281474976710656
returns-then-numbers-ge281474976710656 c = λ algorithm mac other.
    let a = c.args in
    later_late _ _ _ (stamp_of a.numbers algorithm mac other) _ (rw c.in_ok-message_refusal.was at c.message_refusal.ensures) (omega arith)

pub returns : goal.returns
returns c = λ algorithm mac other.
    let a = c.args in
    later_goes _ _ _ (stamp_of a.numbers algorithm mac other) _ (rw c.in_ok-message_refusal.was at c.message_refusal.ensures) (omega arith) _ _ (c.later_in.ensures algorithm mac other)
