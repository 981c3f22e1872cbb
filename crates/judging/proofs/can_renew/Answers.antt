-- `judging::can_renew` meets its contract. Assumes nothing.
use Rattle.std.proofs.Common.{sym, refl}
use Rattle.model.specs.Judging.{can_renew}
use Rattle.judging.proofs.can_renew.Goals as goal

pub returns : goal.returns
unfolding can_renew
returns c = λ octets is. rw (sym (c.offer_serves.ensures octets is)) refl
