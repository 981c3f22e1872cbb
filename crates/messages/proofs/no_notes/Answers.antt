-- `messages::no_notes` meets its contract. Assumes nothing.
use mathlib.Core.Path.{refl}
use Rattle.messages.proofs.no_notes.Goals as goal

pub returns : goal.returns
returns c = rw (c.no_hits-sign.ensures, c.no_hits-tkey.ensures, c.no_hits-key.ensures) refl
