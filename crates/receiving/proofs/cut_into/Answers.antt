-- `receiving::cut_into` meets its contract. Assumes nothing.
use Rattle.octets.proofs.Laws.{wrote_as}
use Rattle.receiving.proofs.Pieces.{cut_octets}
use borrow.Author.Rules.{rules}
use Rattle.receiving.proofs.cut_into.Goals as goal

pub returns : goal.returns
returns c = (search rules, wrote_as (rw c.u16_at-count.ensures.0 (cut_octets _ _ c.requires.0 _)) c.renumbered_into.ensures.1)
