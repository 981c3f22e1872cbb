-- `signing::request_in` meets its contract. Assumes nothing.
use Rattle.digests.specs.Stamps.{stamp_of}
use native.Mathlib.Omega.{arith}
use Rattle.model.specs.Signing.{request_digest}
use Rattle.signing.proofs.Ends.{too_much, no_room, in_room_lem, request_goes}
use Rattle.digests.proofs.Laws.{request_length}
use Rattle.signing.proofs.request_in.Goals as goal

pub returns-then-other-gt65535 : goal.returns-then-other-gt65535
returns-then-other-gt65535 c = λ mac.
    let a = c.args in
    let t = stamp_of a.numbers a.algorithm.now mac a.other.now in
    request_goes _ _ t c.requires.0 _ _ _ (too_much t (request_digest a.m.now a.name.now t) a.out.now (omega arith))

pub returns-then-out-m : goal.returns-then-out-m
returns-then-out-m c = λ mac.
    let a = c.args in
    let t = stamp_of a.numbers a.algorithm.now mac a.other.now in
    let l = request_length a.m.now a.name.now t (omega arith) in
    request_goes _ _ t c.requires.0 _ _ _ (no_room t (request_digest a.m.now a.name.now t) a.out.now (omega arith) (omega arith))

pub returns : goal.returns
returns c = λ mac.
    let a = c.args in
    let t = stamp_of a.numbers a.algorithm.now mac a.other.now in
    request_goes _ _ t c.requires.0 _ _ _ (in_room_lem t (request_digest a.m.now a.name.now t) a.out.now (omega arith) _ _ (c.digest_into.ensures mac))
