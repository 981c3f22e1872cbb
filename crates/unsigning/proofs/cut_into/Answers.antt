-- `unsigning::cut_into` meets its contract. Assumes nothing.
use Rattle.octets.proofs.Laws.{wrote_as}
use Rattle.unsigning.proofs.Removing.{removed_is}
use borrow.Author.Rules.{rules}
use Rattle.unsigning.proofs.cut_into.Goals as goal

pub returns : goal.returns
returns c = (search rules, wrote_as (rw c.u16_at.ensures.0 (removed_is _ _ c.requires.0)) c.counted_into.ensures.1)
