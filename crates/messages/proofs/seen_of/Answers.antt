-- `messages::seen_of` meets its contract. Assumes nothing.
use mathlib.Core.Path.{refl}
use Rattle.messages.proofs.seen_of.Goals as goal

pub returns : goal.returns
returns c = rw (c.kept_of-sign.ensures, c.kept_of-tkey.ensures, c.kept_of-key.ensures) refl
