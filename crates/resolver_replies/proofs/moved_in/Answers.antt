-- `resolver_replies::moved_in` meets its contract. Assumes nothing.
use Rattle.resolver_replies.proofs.Hearing.{answer_moves}
use Rattle.resolver_replies.proofs.moved_in.Goals as goal

pub returns : goal.returns
returns c = answer_moves _ _ _ _ _ c.answer_tkey-kept.ensures _ _ c.answer_by-found.ensures _ c.moved_by.ensures
