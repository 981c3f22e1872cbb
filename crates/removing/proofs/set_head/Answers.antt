-- `removing::set_head` meets its contract. Assumes nothing.
use Rattle.removing.proofs.Moving.{headed}
use Rattle.removing.proofs.set_head.Goals as goal

pub returns : goal.returns
returns c = headed c.requires.0 c.max-floor.ensures
