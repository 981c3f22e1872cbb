-- `lines::field_end` meets its contract: the field ends where its first tab or newline stands. Assumes nothing.
use Prim.Native.Nat.{◌-◌}
use mathlib.Core.Path.{sym}
use native.Mathlib.Omega.{arith}
use lib.ListN.{length, drop, length-drop}
use lib.Seq.{take_all}
use Rattle.lines.proofs.Laws.{separator, field_found, field_short, found_at, found_none}
use Rattle.lines.proofs.field_end.Goals as goal

pub returns-in-Some : goal.returns-in-Some
returns-in-Some c =
    let a = c.args in
    let s = drop a.from a.line.now in
    let n = c.in-Some.n in
    let whole = take_all (length a.line.now - a.from) s (rw length-drop (omega arith)) in
    let e = sym (rw whole at c.in-Some.ensures) in
    let f = found_at separator s n e in
    let l = length-drop a.from a.line.now in
    let size = field_found s in
    record { ends = omega (arith, f.0, size); more = omega arith; within = omega (arith, f.1, l) }

pub returns-in-None : goal.returns-in-None
returns-in-None c =
    let a = c.args in
    let s = drop a.from a.line.now in
    let whole = take_all (length a.line.now - a.from) s (rw length-drop (omega arith)) in
    let e = sym (rw whole at c.in-None.ensures) in
    let f = found_none separator s e in
    let l = length-drop a.from a.line.now in
    let size = field_found s in
    let most = field_short s in
    record { ends = omega (arith, f, size, most, l); more = omega arith; within = omega arith }
