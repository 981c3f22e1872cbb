-- `replies::renewed` meets its contract. Assumes nothing.
use native.Mathlib.Omega.{arith}
use Rattle.replies.proofs.Laws.{renewed_length, no_room, too_long, in_room_lem}
use Rattle.replies.specs.Parts.{renewed_octets}
use Rattle.replies.proofs.renewed.Goals as goal

pub returns-then-second-gt65535 : goal.returns-then-second-gt65535
returns-then-second-gt65535 c =
    let a = c.args in
    let l = renewed_length a.m.now a.g a.owner.now a.key.now a.second.now a.subject.now c.requires.0 c.requires.1 c.requires.2 in
    too_long (renewed_octets a.m.now a.g a.owner.now a.key.now a.second.now a.subject.now) a.buf.now (omega arith)

pub returns-then-n-gt65535 : goal.returns-then-n-gt65535
returns-then-n-gt65535 c =
    let a = c.args in
    let l = renewed_length a.m.now a.g a.owner.now a.key.now a.second.now a.subject.now c.requires.0 c.requires.1 c.requires.2 in
    too_long (renewed_octets a.m.now a.g a.owner.now a.key.now a.second.now a.subject.now) a.buf.now (omega arith)

pub returns-then-buf-n : goal.returns-then-buf-n
returns-then-buf-n c =
    let a = c.args in
    let l = renewed_length a.m.now a.g a.owner.now a.key.now a.second.now a.subject.now c.requires.0 c.requires.1 c.requires.2 in
    no_room (renewed_octets a.m.now a.g a.owner.now a.key.now a.second.now a.subject.now) a.buf.now (omega arith)

pub returns : goal.returns
returns c =
    in_room_lem c.renewed_into.ensures.1 (omega arith)
