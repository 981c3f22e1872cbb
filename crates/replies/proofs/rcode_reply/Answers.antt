-- `replies::rcode_reply` meets its contract. Assumes nothing.
use native.Mathlib.Omega.{arith}
use Rattle.model.specs.Replies.{heading, rcode_reply}
use Rattle.replies.proofs.Laws.{heading_length, no_room, in_room_lem}
use Rattle.replies.specs.Parts.{framed}
use Rattle.replies.proofs.rcode_reply.Goals as goal

pub returns-then-buf-end : goal.returns-then-buf-end
unfolding rcode_reply
returns-then-buf-end c =
    let a = c.args in
    let l = heading_length a.m.now a.end a.rcode 0 0 c.requires.0 in
    no_room (heading (framed a.m.now a.end) a.rcode 0 0) a.buf.now (omega arith)

pub returns : goal.returns
unfolding rcode_reply
returns c =
    in_room_lem c.head.ensures.1 (omega arith)
