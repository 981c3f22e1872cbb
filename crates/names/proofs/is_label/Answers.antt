-- `names::is_label` meets its contract: it is the name of the key under no suffix. Assumes nothing.
use mathlib.Core.List.{append-nil}
use Rattle.model.specs.Names.{key_name}
use Rattle.names.proofs.is_label.Goals as goal

pub returns : goal.returns
unfolding key_name
returns c = rw append-nil at c.is_key_name.ensures
