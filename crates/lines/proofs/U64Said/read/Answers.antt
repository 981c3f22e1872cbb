-- A number without leading zeros meets its contract: of two digits and more the first is none but 1 to 9. Assumes nothing.
use mathlib.Core.Path.{sym, ◌∙◌}
use Rattle.lines.proofs.Laws.{one_digit, leading_zero, no_leading_zero}
use native.Mathlib.Omega.{arith}
use Rattle.lines.proofs.U64Said.read.Goals.{else-w-ge2-via-then-w-ge2+else-w-le48, else-w-ge2-via-else-w-ge2}
use Rattle.lines.proofs.U64Said.read.Goals as goal

pub returns-then-w-le48 : goal.returns-then-w-le48
returns-then-w-le48 c = sym (leading_zero c.args.w.now c.if-w-ge2.true (omega arith))

pub returns : goal.returns
returns c =
    elim c.else-w-ge2.branch [
      | else-w-ge2-via-then-w-ge2+else-w-le48 w ↦ c.read_number.ensures ∙ sym (no_leading_zero c.args.w.now w.if-w-ge2.true w.if-w-le48.false)
      | else-w-ge2-via-else-w-ge2 w ↦ c.read_number.ensures ∙ sym (one_digit c.args.w.now w.if-w-ge2.false)
    ]
