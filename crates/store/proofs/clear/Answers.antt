-- `store::clear` meets its contract. Assumes nothing.
use Rattle.store.proofs.Storing.{cleared}
use Rattle.store.proofs.clear.Goals as goal

pub returns : goal.returns
returns c = cleared c.args.words.now _ _ c.requires
