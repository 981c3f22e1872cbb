-- `resolver_replies::hear` meets its contract. Assumes nothing.
use Rattle.resolver_replies.proofs.Hearing.{hears}
use Rattle.resolver_replies.proofs.hear.Goals as goal

pub returns : goal.returns
returns c = hears _ _ _ _ _ _ _ c.accept-state.ensures
