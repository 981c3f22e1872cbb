-- `judging::judge` meets its contract. Assumes nothing.
use Rattle.model.specs.Judging.{form_err, refused_rcode, not_auth, bad_key, signer_of, held_number, held_suffix, held_pair, step2, judge_read}
use Rattle.judging.proofs.judge.Goals as goal

pub judge_signed-requires : goal.judge_signed-requires
judge_signed-requires c =
    let pre = c.requires in
    let signer = rw c.in-Key.is at pre.0 in
    let who = rw c.in-Some.is at pre.2 in
    (signer.1, pre.1, who, pre.3, signer.0)

pub returns-then-c : goal.returns-then-c
unfolding judge_read step2 refused_rcode
returns-then-c c =
    λ offer second is.
    rw (c.in-Nobody.is, c.if-c.true) c.unknown_by.ensures

pub returns-else-c : goal.returns-else-c
unfolding judge_read step2
returns-else-c c =
    λ offer second is.
    rw (c.in-Nobody.is, c.if-c.false) c.unknown_by-else-c.ensures

pub returns-in-Ill : goal.returns-in-Ill
unfolding judge_read form_err
returns-in-Ill c =
    λ offer second is.
    rw c.in-Ill.is c.unknown_by-in-Ill.ensures

pub returns-in-None : goal.returns-in-None
unfolding judge_read signer_of not_auth bad_key
returns-in-None c =
    λ offer second is.
    rw (c.in-Key.is, c.in-None.is) c.unknown_by-in-None.ensures

pub returns-in-Some : goal.returns-in-Some
unfolding judge_read held_number held_suffix held_pair
returns-in-Some c =
    λ offer second is.
    rw (c.in-Key.is, c.in-Some.is) (c.judge_signed.ensures offer second is)
