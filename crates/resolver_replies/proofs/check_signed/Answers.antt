-- `resolver_replies::check_signed` meets its contract. Assumes nothing.
use Rattle.resolver_replies.proofs.Hearing.{by_unsigned, by_verdict, by_signed}
use Rattle.resolver_replies.proofs.check_signed.Goals as goal

pub returns-in-Nobody : goal.returns-in-Nobody
returns-in-Nobody c s m = by_unsigned s _ _ m _ _ _ c.in-Nobody.is

pub returns-then-not-good : goal.returns-then-not-good
returns-then-not-good c s m = by_verdict s _ _ m _ _ _ _ _ c.in-Key.is c.if-not-good.true

pub returns-else-not-good : goal.returns-else-not-good
returns-else-not-good c s m r i = by_signed s _ _ m _ _ _ _ _ c.in-Key.is r c.if-not-good.false i
