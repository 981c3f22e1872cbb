-- `replies::repeated` meets its contract. Assumes nothing.
use native.Mathlib.Omega.{arith}
use Rattle.replies.proofs.Laws.{repeated_length, no_room, too_long, in_room_lem}
use Rattle.replies.specs.Parts.{repeated_octets}
use Rattle.replies.proofs.repeated.Goals as goal

pub returns-then-n-gt65535 : goal.returns-then-n-gt65535
returns-then-n-gt65535 c =
    let a = c.args in
    let l = repeated_length a.m.now a.end 1 0 a.t a.owner.now a.key.now c.requires.0 c.requires.1 in
    too_long (repeated_octets a.m.now a.end 1 0 a.t a.owner.now a.key.now) a.buf.now (omega arith)

pub returns-then-buf-n : goal.returns-then-buf-n
returns-then-buf-n c =
    let a = c.args in
    let l = repeated_length a.m.now a.end 1 0 a.t a.owner.now a.key.now c.requires.0 c.requires.1 in
    no_room (repeated_octets a.m.now a.end 1 0 a.t a.owner.now a.key.now) a.buf.now (omega arith)

pub returns : goal.returns
returns c =
    in_room_lem c.repeated_into.ensures.1 (omega arith)
