-- `lines::line_end` meets its contract: the line ends behind its newline, or with the text. Assumes nothing.
use Prim.Native.Nat.{◌+◌, ◌-◌}
use mathlib.Core.Path.{sym}
use native.Mathlib.Omega.{arith}
use lib.ListN.{length, drop, length-drop}
use lib.Seq.{take_all}
use Rattle.lines.proofs.Laws.{newline, line_found, line_unended, found_at, found_none, line_ends}
use Rattle.lines.proofs.line_end.Goals as goal

pub returns-in-Some : goal.returns-in-Some
returns-in-Some c =
    let a = c.args in
    let s = drop a.at a.text.now in
    let n = c.in-Some.n in
    let whole = take_all (length a.text.now - a.at) s (rw length-drop (omega arith)) in
    let e = sym (rw whole at c.in-Some.ensures) in
    let f = found_at newline s n e in
    let l = length-drop a.at a.text.now in
    let size = line_found s (omega (arith, f.0, f.1)) in
    line_ends a.text.now a.at (a.at + n + 1) (omega arith) (omega (arith, f.1, l)) (omega (arith, size, f.0))

pub returns-in-None : goal.returns-in-None
returns-in-None c =
    let a = c.args in
    let s = drop a.at a.text.now in
    let whole = take_all (length a.text.now - a.at) s (rw length-drop (omega arith)) in
    let e = sym (rw whole at c.in-None.ensures) in
    let l = length-drop a.at a.text.now in
    let size = line_unended s (found_none newline s e) in
    line_ends a.text.now a.at (length a.text.now) (omega arith) (omega arith) (omega (arith, size, l))
