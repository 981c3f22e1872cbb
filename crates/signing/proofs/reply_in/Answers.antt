-- `signing::reply_in` meets its contract. Assumes nothing.
use Rattle.digests.specs.Stamps.{stamp_of}
use native.Mathlib.Omega.{arith}
use Rattle.model.specs.Signing.{reply_digest}
use Rattle.octets.proofs.Laws.{then}
use Rattle.signing.proofs.Ends.{too_much, no_room, in_room_lem, reply_goes, reply_mac_lem}
use Rattle.digests.proofs.Laws.{reply_length}
use Rattle.signing.proofs.reply_in.Goals as goal

pub returns-then-mac-gt-LONGEST_MAC : goal.returns-then-mac-gt-LONGEST_MAC
returns-then-mac-gt-LONGEST_MAC c = λ own.
    let a = c.args in
    let t = stamp_of a.numbers a.algorithm.now own a.other.now in
    reply_mac_lem _ _ t c.requires.0 _ a.mac.now (omega arith)

pub returns-then-other-gt65535 : goal.returns-then-other-gt65535
returns-then-other-gt65535 c = λ own.
    let a = c.args in
    let t = stamp_of a.numbers a.algorithm.now own a.other.now in
    reply_goes _ _ t c.requires.0 _ _ _ a.mac.now (omega arith) (too_much t (reply_digest a.mac.now a.m.now a.name.now t) a.out.now (omega arith))

pub returns-then-out-mac : goal.returns-then-out-mac
returns-then-out-mac c = λ own.
    let a = c.args in
    let t = stamp_of a.numbers a.algorithm.now own a.other.now in
    let l = reply_length a.m.now a.name.now t (omega arith) a.mac.now in
    reply_goes _ _ t c.requires.0 _ _ _ a.mac.now (omega arith) (no_room t (reply_digest a.mac.now a.m.now a.name.now t) a.out.now (omega arith) (omega arith))

pub returns : goal.returns
unfolding reply_digest
returns c = λ own.
    let a = c.args in
    let t = stamp_of a.numbers a.algorithm.now own a.other.now in
    let w = then c.u16_into-a.ensures.1 (then c.all_into-b.ensures.1 (c.digest_into.ensures own)) in
    reply_goes _ _ t c.requires.0 _ _ _ a.mac.now (omega arith) (in_room_lem t (reply_digest a.mac.now a.m.now a.name.now t) a.out.now (omega arith) _ _ w)
