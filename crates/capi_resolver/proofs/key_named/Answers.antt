-- `capi_resolver::key_named` meets its contract. Assumes nothing.
use Rattle.octets.proofs.Laws.{wrote_put}
use Rattle.model.specs.Granted.{key_named}
use mathlib.Core.Path.{refl}
use Rattle.capi_resolver.proofs.key_named.Goals as goal

pub returns : goal.returns
unfolding key_named
returns c = let w = wrote_put c.all_into-length.ensures.1 in rw (w.0, w.1) refl
