-- `lines::is_end` meets its contract: what is left of the line is compared with a newline. Assumes nothing.
use Prim.Native.Nat.{◌-◌, ◌≤◌}
use borrow.Author.Tests.{lt-leb}
use native.Mathlib.Omega.{arith}
use lib.ListN.{length, drop, length-drop, drop_of_length-le}
use lib.Seq.{take_all}
use Rattle.model.specs.Text.{is_word}
use Rattle.lines.proofs.is_end.Goals as goal

pub returns-else-at-line : goal.returns-else-at-line
unfolding is_word
returns-else-at-line c =
    let a = c.args in
    let past : length a.line.now ≤ a.at = omega arith in
    rw (drop_of_length-le a.line.now past) (lt-leb _ _ c.if-at-line.false)

pub returns-then-at-line : goal.returns-then-at-line
returns-then-at-line c =
    let a = c.args in
    let rest = drop a.at a.line.now in
    let whole = take_all (length a.line.now - a.at) rest (rw length-drop (omega arith)) in
    rw whole at c.is_word.ensures
