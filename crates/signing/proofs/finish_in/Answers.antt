-- `signing::finish_in` meets its contract. Assumes nothing.
use Rattle.digests.specs.Stamps.{stamp_of}
use native.Mathlib.Omega.{arith}
use Rattle.model.specs.Signing.{finished}
use Rattle.octets.proofs.Laws.{then, wrote_as}
use Rattle.signing.proofs.Ends.{too_long, too_tight, fits, finish_goes, finish_mac, finished_length, finished_octets}
use Rattle.signing.proofs.finish_in.Goals as goal

pub returns-then-mac-gt-LONGEST_MAC : goal.returns-then-mac-gt-LONGEST_MAC
returns-then-mac-gt-LONGEST_MAC c =
    let a = c.args in
    let t = stamp_of a.numbers a.algorithm.now a.mac.now a.other.now in
    finish_mac _ _ t c.requires.0 _ (omega arith)

pub returns-then-other-gt65535 : goal.returns-then-other-gt65535
returns-then-other-gt65535 c =
    let a = c.args in
    let t = stamp_of a.numbers a.algorithm.now a.mac.now a.other.now in
    let l = finished_length a.m.now a.name.now t (omega arith) in
    finish_goes _ _ t c.requires.0 _ _ _ (omega arith) (too_long (finished a.m.now a.name.now t) a.out.now (omega arith))

pub returns-then-size-gt65535 : goal.returns-then-size-gt65535
returns-then-size-gt65535 c =
    let a = c.args in
    let t = stamp_of a.numbers a.algorithm.now a.mac.now a.other.now in
    let l = finished_length a.m.now a.name.now t (omega arith) in
    finish_goes _ _ t c.requires.0 _ _ _ (omega arith) (too_long (finished a.m.now a.name.now t) a.out.now (omega arith))

pub returns-then-out-size : goal.returns-then-out-size
returns-then-out-size c =
    let a = c.args in
    let t = stamp_of a.numbers a.algorithm.now a.mac.now a.other.now in
    let l = finished_length a.m.now a.name.now t (omega arith) in
    finish_goes _ _ t c.requires.0 _ _ _ (omega arith) (too_tight (finished a.m.now a.name.now t) a.out.now (omega arith))

pub returns : goal.returns
returns c =
    let a = c.args in
    let t = stamp_of a.numbers a.algorithm.now a.mac.now a.other.now in
    let l = finished_length a.m.now a.name.now t (omega arith) in
    let w = wrote_as (finished_octets a.m.now a.name.now t) (then c.counted_into-a.ensures.1 c.tsig_into.ensures) in
    finish_goes _ _ t c.requires.0 _ _ _ (omega arith) (fits (finished a.m.now a.name.now t) a.out.now _ _ (omega arith) w)
