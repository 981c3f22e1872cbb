-- `compression::read_name` meets its contract: `labels` reads on in a run that begins at the name. Assumes nothing.
use Rattle.model.specs.Names.{read_name}
use Rattle.compression.proofs.read_name.Goals as goal

pub returns : goal.returns
unfolding read_name
returns c = c.labels.ensures
