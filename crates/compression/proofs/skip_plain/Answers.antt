-- `compression::skip_plain` meets its contract. Assumes nothing.
use Rattle.model.specs.Names.{read_plain}
use Rattle.compression.proofs.skip_plain.Goals as goal

pub returns : goal.returns
unfolding read_plain
returns c = c.skip.ensures
