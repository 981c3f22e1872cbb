-- `server::keep_row` meets its contract. Assumes nothing.
use Rattle.server.proofs.Laws.{keep_same, keep_stored}
use Rattle.server.proofs.keep_row.Goals as goal

pub returns-in-None : goal.returns-in-None
returns-in-None c = keep_same _ c.args.s _ _ c.in-None.is

pub returns-in-Some : goal.returns-in-Some
returns-in-Some c = keep_stored _ c.args.s _ _ c.in-Some.is c.requires.2 c.settle.ensures
