-- `resolver_replies::check_message` meets its contract. Assumes nothing.
use Rattle.resolver_replies.proofs.Hearing.{unread, well_formed_lem, whole_from}
use Rattle.resolver_replies.proofs.check_message.Goals as goal

pub check_awaited-requires : goal.check_awaited-requires
check_awaited-requires c = whole_from c.args.s.now c.args.good _ _ c.read.ensures _ c.in-Ok.is

pub returns-in-Err : goal.returns-in-Err
returns-in-Err c = unread _ _ _ _ c.read.ensures _ c.in-Err.is

pub returns-in-Ok : goal.returns-in-Ok
returns-in-Ok c = well_formed_lem _ _ _ _ c.read.ensures _ c.in-Ok.is _ c.check_awaited.ensures
