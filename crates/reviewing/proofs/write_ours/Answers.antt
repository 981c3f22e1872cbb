-- `reviewing::write_ours` meets its contract. Assumes nothing.
use Rattle.reviewing.proofs.Laws.{ours_fill}
use Rattle.reviewing.proofs.write_ours.Goals as goal

pub returns : goal.returns
returns c = ours_fill _ _ c.requires c.message-a.ensures
