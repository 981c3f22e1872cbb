-- `messages::note` meets its contract. Assumes nothing.
use Rattle.messages.specs.Scan.{noted}
use mathlib.Core.Path.{refl}
use Rattle.messages.proofs.note.Goals as goal

pub returns : goal.returns
unfolding noted
returns c = rw (c.sign_on-sign.ensures, c.tally-tkey.ensures, c.tally-key.ensures) refl
