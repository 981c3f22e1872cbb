-- `replies::tkey_data` meets its contract. Assumes nothing.
use Rattle.octets.proofs.Laws.{then, wrote_as}
use Rattle.replies.proofs.Laws.{tkey_octets}
use borrow.Author.Rules.{rules}
use Rattle.replies.proofs.tkey_data.Goals as goal

pub returns : goal.returns
returns c =
    let w = then c.tkey_front-a.ensures.1 (then c.sized-b.ensures.1 c.sized_part.ensures.1) in
    (search rules, wrote_as (tkey_octets _ _ _ _ _ _ _) w)
