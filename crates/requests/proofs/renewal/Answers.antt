-- `requests::renewal` meets its contract. Assumes nothing.
use native.Mathlib.Omega.{arith}
use Rattle.model.specs.Resolver.{renewal_octets}
use Rattle.octets.proofs.Laws.{then, wrote_as}
use Rattle.replies.proofs.Laws.{no_room, too_long, in_room_lem}
use Rattle.requests.proofs.Laws.{renewal_octets_lem, renewal_length}
use Rattle.requests.proofs.renewal.Goals as goal

pub returns-then-key-gt65535 : goal.returns-then-key-gt65535
returns-then-key-gt65535 c =
    let a = c.args in
    let l = renewal_length a.id a.name.now a.g a.inception a.expiration a.old.now a.old_algorithm a.key.now in
    too_long (renewal_octets a.id a.name.now a.g a.inception a.expiration a.old.now a.old_algorithm a.key.now) a.buf.now (omega arith)

pub returns-then-n-gt65535 : goal.returns-then-n-gt65535
returns-then-n-gt65535 c =
    let a = c.args in
    let l = renewal_length a.id a.name.now a.g a.inception a.expiration a.old.now a.old_algorithm a.key.now in
    too_long (renewal_octets a.id a.name.now a.g a.inception a.expiration a.old.now a.old_algorithm a.key.now) a.buf.now (omega arith)

pub returns-then-buf-n : goal.returns-then-buf-n
returns-then-buf-n c =
    let a = c.args in
    let l = renewal_length a.id a.name.now a.g a.inception a.expiration a.old.now a.old_algorithm a.key.now in
    no_room (renewal_octets a.id a.name.now a.g a.inception a.expiration a.old.now a.old_algorithm a.key.now) a.buf.now (omega arith)

pub returns : goal.returns
returns c =
    let a = c.args in
    let w = then c.request_front-a.ensures.1 (then c.old_key-b.ensures.1 c.all_into.ensures.1) in
    in_room_lem (wrote_as (renewal_octets_lem a.id a.name.now a.g a.inception a.expiration a.old.now a.old_algorithm a.key.now) w) (omega arith)
