-- `judging::judge_signed` meets its contract. Assumes nothing.
use Rattle.std.proofs.Common.{sym, refl, ◌∙◌}
use Rattle.model.specs.Judging.{not_auth, bad_key}
use Rattle.matching.specs.Compare.{name_standing}
use Rattle.judging.proofs.judge_signed.Goals as goal

pub decide-decision-requires : goal.decide-decision-requires
decide-decision-requires c =
    let pre = c.requires in
    (pre.0, pre.1, pre.2, rw c.in-Some.is at c.signer_of.ensures.1, pre.3)

pub returns-in-None : goal.returns-in-None
unfolding not_auth bad_key
returns-in-None c =
    λ offer second is.
    let key = c.signer_of.ensures.0 c.args.number in
    rw (key, c.in-None.is) c.unknown_by.ensures

pub returns-then-in_time : goal.returns-then-in_time
returns-then-in_time c =
    λ offer second is.
    let a = c.args in
    let key = c.signer_of.ensures.0 a.number in
    let time = sym c.in_time.ensures ∙ c.if-in_time.true in
    let decided = c.decide-decision.ensures offer second is (name_standing a.m.now a.place) in
    rw (key, c.in-Some.is, time, decided) refl

pub returns-else-in_time : goal.returns-else-in_time
unfolding not_auth bad_key
returns-else-in_time c =
    λ offer second is.
    let key = c.signer_of.ensures.0 c.args.number in
    let time = sym c.in_time.ensures ∙ c.if-in_time.false in
    rw (key, c.in-Some.is, time) c.unknown_by-else-in_time.ensures
