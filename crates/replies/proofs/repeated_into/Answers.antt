-- `replies::repeated_into` meets its contract. Assumes nothing.
use Rattle.octets.proofs.Laws.{then}
use Rattle.replies.specs.Parts.{repeated_octets}
use borrow.Author.Rules.{rules}
use Rattle.replies.proofs.repeated_into.Goals as goal

pub returns : goal.returns
unfolding repeated_octets
returns c =
    (search rules, then c.head-a.ensures.1 c.tkey_record.ensures.1)
