-- `resolver_replies::moved_by` meets its contract. Assumes nothing.
use Rattle.resolver_replies.proofs.Hearing.{by_none, by_fits, by_mode, by_error, by_moves}
use Rattle.resolver_replies.proofs.moved_by.Goals as goal

pub returns-then-not-is_mode : goal.returns-then-not-is_mode
returns-then-not-is_mode c = by_mode _ _ _ _ _ _ _ c.in-Some.is _ c.is_mode.ensures c.if-not-is_mode.true

pub returns-then-fields-ne0 : goal.returns-then-fields-ne0
returns-then-fields-ne0 c = by_error _ _ _ _ _ _ _ c.in-Some.is _ c.is_mode.ensures c.if-not-is_mode.false c.if-fields-ne0.true

pub moved_as-requires : goal.moved_as-requires
moved_as-requires c = by_fits _ _ _ _ _ c.in-Some.is c.requires

pub returns-in-None : goal.returns-in-None
returns-in-None c = by_none _ _ _ _ _ c.in-None.is

pub returns-else-fields-ne0 : goal.returns-else-fields-ne0
returns-else-fields-ne0 c = by_moves _ _ _ _ _ _ _ c.in-Some.is _ c.is_mode.ensures c.if-not-is_mode.false c.if-fields-ne0.false _ c.moved_as.ensures
