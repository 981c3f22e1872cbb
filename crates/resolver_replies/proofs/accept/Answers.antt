-- `resolver_replies::accept` meets its contract. Assumes nothing.
use Rattle.resolver_replies.proofs.Hearing.{no_reply, bad_rcode, bad_tsig, no_error}
use Rattle.resolver_replies.proofs.accept.Goals as goal

pub returns-then-not-passed : goal.returns-then-not-passed
returns-then-not-passed c = no_reply _ _ _ _ _ _ _ c.close_request-after.ensures c.if-not-passed.true

pub returns-then-wide-ne0 : goal.returns-then-wide-ne0
returns-then-wide-ne0 c = bad_rcode _ _ _ _ _ _ _ c.close_request-after.ensures c.if-not-passed.false _ c.wide.ensures.0 c.if-wide-ne0.true

pub returns-then-passed-ne0 : goal.returns-then-passed-ne0
returns-then-passed-ne0 c = bad_tsig _ _ _ _ _ _ _ c.close_request-after.ensures c.if-not-passed.false _ c.wide.ensures.0 c.if-wide-ne0.false c.if-passed-ne0.true

pub returns : goal.returns
returns c = no_error _ _ _ _ _ _ _ c.close_request-after.ensures c.if-not-passed.false _ c.wide.ensures.0 c.if-wide-ne0.false c.if-passed-ne0.false _ c.moved_in.ensures
