-- `judging::grant` meets its contract. Assumes nothing.
use Rattle.std.proofs.Common.{sym, refl, ◌∙◌}
use Rattle.model.specs.Judging.{serv_fail, bad_time}
use Rattle.judging.proofs.grant.Goals as goal

pub returns-then-can_renew : goal.returns-then-can_renew
returns-then-can_renew c =
    λ octets is m name.
    let interval = sym (c.good_interval.ensures m name) ∙ c.if-good_interval.true in
    let can = sym (c.can_renew.ensures octets is) ∙ c.if-can_renew.true in
    rw (interval, can) refl

pub returns-else-can_renew : goal.returns-else-can_renew
unfolding serv_fail
returns-else-can_renew c =
    λ octets is m name.
    let interval = sym (c.good_interval.ensures m name) ∙ c.if-good_interval.true in
    let can = sym (c.can_renew.ensures octets is) ∙ c.if-can_renew.false in
    rw (interval, can) refl

pub returns-else-good_interval : goal.returns-else-good_interval
unfolding bad_time
returns-else-good_interval c =
    λ octets is m name.
    let interval = sym (c.good_interval.ensures m name) ∙ c.if-good_interval.false in
    rw interval refl
