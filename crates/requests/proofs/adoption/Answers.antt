-- `requests::adoption` meets its contract. Assumes nothing.
use native.Mathlib.Omega.{arith}
use Rattle.model.specs.Resolver.{adoption_octets}
use Rattle.octets.proofs.Laws.{then, wrote_as}
use Rattle.replies.proofs.Laws.{no_room, in_room_lem}
use Rattle.requests.proofs.Laws.{adoption_octets_lem, adoption_length}
use Rattle.requests.proofs.adoption.Goals as goal

pub returns-then-buf-name : goal.returns-then-buf-name
returns-then-buf-name c =
    let a = c.args in
    let l = adoption_length a.id a.name.now a.g a.inception a.expiration a.old.now a.old_algorithm in
    no_room (adoption_octets a.id a.name.now a.g a.inception a.expiration a.old.now a.old_algorithm) a.buf.now (omega arith)

pub returns : goal.returns
returns c =
    let a = c.args in
    let w = then c.request_front-a.ensures.1 c.old_key.ensures.1 in
    in_room_lem (wrote_as (adoption_octets_lem a.id a.name.now a.g a.inception a.expiration a.old.now a.old_algorithm) w) (omega arith)
