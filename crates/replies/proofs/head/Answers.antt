-- `replies::head` meets its contract. Assumes nothing.
use Rattle.octets.proofs.Laws.{then, wrote_as}
use Rattle.replies.proofs.Laws.{heading_octets}
use borrow.Author.Rules.{rules}
use Rattle.replies.proofs.head.Goals as goal

pub returns : goal.returns
returns c =
    let a = c.args in
    let w = then c.heading_front-a.ensures.1 c.heading_back.ensures.1 in
    (search rules, wrote_as (heading_octets a.m.now a.end a.rcode a.answers a.additionals) w)
