-- `requests::deletion` meets its contract. Assumes nothing.
use native.Mathlib.Omega.{arith}
use Rattle.model.specs.Resolver.{deletion_octets}
use Rattle.octets.proofs.Laws.{wrote_as}
use Rattle.replies.proofs.Laws.{no_room, in_room_lem}
use Rattle.requests.proofs.Laws.{deletion_octets_lem, deletion_length}
use Rattle.requests.proofs.deletion.Goals as goal

pub returns-then-buf-name : goal.returns-then-buf-name
returns-then-buf-name c =
    let a = c.args in
    let l = deletion_length a.id a.name.now a.g in
    no_room (deletion_octets a.id a.name.now a.g) a.buf.now (omega arith)

pub returns : goal.returns
returns c =
    let a = c.args in
    in_room_lem (wrote_as (deletion_octets_lem a.id a.name.now a.g) c.request_front.ensures.1) (omega arith)
