-- `replies::renewed_into` meets its contract. Assumes nothing.
use Rattle.octets.proofs.Laws.{then}
use Rattle.replies.specs.Parts.{renewed_octets}
use borrow.Author.Rules.{rules}
use Rattle.replies.proofs.renewed_into.Goals as goal

pub returns : goal.returns
unfolding renewed_octets
returns c =
    (search rules, then c.repeated_into-a.ensures.1 (then c.all_into-b.ensures.1 c.echo_record.ensures.1))
