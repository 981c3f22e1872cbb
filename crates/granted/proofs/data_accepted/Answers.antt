-- `granted::data_accepted` meets its contract. Assumes nothing.
use Rattle.granted.proofs.Laws.{no_renewal, no_reply, bad_rcode, bad_tsig, no_error}
use Rattle.granted.proofs.data_accepted.Goals as goal

pub returns-then-not-renewing : goal.returns-then-not-renewing
returns-then-not-renewing c = no_renewal _ _ _ _ _ c.if-not-renewing.true

pub returns-then-not-response : goal.returns-then-not-response
returns-then-not-response c = no_reply _ _ _ _ _ c.if-not-response.true

pub returns-then-wide-ne0 : goal.returns-then-wide-ne0
returns-then-wide-ne0 c = bad_rcode _ _ _ _ _ c.if-not-response.false _ c.wide.ensures.0 c.if-wide-ne0.true

pub returns-then-error-ne0 : goal.returns-then-error-ne0
returns-then-error-ne0 c = bad_tsig _ _ _ _ _ c.if-not-response.false _ c.wide.ensures.0 c.if-wide-ne0.false c.if-error-ne0.true

pub returns : goal.returns
returns c =
    no_error _ _ _ _ _ c.if-not-response.false _ c.wide.ensures.0 c.if-wide-ne0.false c.if-not-renewing.false c.if-error-ne0.false _ c.data_answered.ensures
