-- `capi::luffcringle_message` meets its contract. Assumes nothing.
use Rattle.capi.proofs.Laws.{message_lent}
use Rattle.capi.proofs.luffcringle_message.Goals as goal

pub returns : goal.returns
returns c = message_lent c.message-a.ensures c.tell.ensures
