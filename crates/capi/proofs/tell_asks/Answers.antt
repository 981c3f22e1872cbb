-- `capi::tell_asks` meets its contract. Assumes nothing.
use Rattle.capi.proofs.Inquiring.{asks_told, unasked_told}
use Rattle.capi.proofs.tell_asks.Goals as goal

pub returns-in-Ok : goal.returns-in-Ok
returns-in-Ok c = λ m a s. rw c.tell_asked.ensures (asks_told m a _ (rw c.in-Ok.is at s))

pub returns-in-Err : goal.returns-in-Err
returns-in-Err c = λ m a s. rw c.unasked_words-told.ensures (unasked_told m a _ (rw c.in-Err.is at s))
