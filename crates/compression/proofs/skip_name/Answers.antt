-- `compression::skip_name` meets its contract. Assumes nothing.
use Rattle.model.specs.Names.{read_name}
use Rattle.compression.proofs.skip_name.Goals as goal

pub returns : goal.returns
unfolding read_name
returns c = c.skip.ensures
