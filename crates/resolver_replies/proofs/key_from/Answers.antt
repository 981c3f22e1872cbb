-- `resolver_replies::key_from` meets its contract. Assumes nothing.
use mathlib.Core.Path.{refl}
use Rattle.octets.proofs.Laws.{wrote_put}
use Rattle.resolver_replies.proofs.key_from.Goals as goal

pub returns : goal.returns
returns c = let w = wrote_put c.all_into-length.ensures.1 in rw (w.0, w.1) refl
