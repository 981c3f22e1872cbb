-- The last digit comes after those of n / 10. Assumes nothing.
use Prim.Native.Nat.{ℕ, ◌+◌, ◌/◌, ◌≤◌}
use mathlib.Core.Path.{◌≡◌, sym, ap, ◌∙◌}
use mathlib.Core.List.{List}
use native.Mathlib.Omega.{arith}
use borrow.Author.Rules.{rules}
use lib.ListN.{length, length-append}
use Rattle.model.specs.Names.{digits_of, decimal}
use Rattle.model.proofs.NameLaws.{decimal_more}
use Rattle.octets.specs.Wrote.{Wrote}
use Rattle.octets.proofs.Laws.{then, wrote_as}
use Rattle.octets.proofs.Back.{wrote_none}
use Rattle.names.proofs.+decimal_into.Goals as goal

-- no digits of 0, and one more of any other number than of its tenth
none : (n at : ℕ) (out : List ℕ) → n ≡ 0 → at + length (decimal n) ≤ length out → Wrote (decimal n) at out out at
unfolding decimal digits_of
none n at out z h = rw z (wrote_none out at (omega arith))

longer : (n : ℕ) → (n ≡ 0 → ⊥) → length (decimal n) ≡ length (decimal (n / 10)) + 1
longer n h = ap length (decimal_more n h) ∙ simp length-append

pub decimal_into-last-requires : goal.decimal_into-last-requires
decimal_into-last-requires t c = let l = longer c.args.n c.if-n-eq0.false in (omega arith, omega arith)

pub u8_into-requires : goal.u8_into-requires
u8_into-requires t c = let l = longer c.args.n c.if-n-eq0.false in search rules

pub returns-then-n-eq0 : goal.returns-then-n-eq0
returns-then-n-eq0 t c = none c.args.n c.args.at _ c.if-n-eq0.true (omega arith)

pub returns-else-n-eq0 : goal.returns-else-n-eq0
returns-else-n-eq0 t c = wrote_as (sym (decimal_more c.args.n c.if-n-eq0.false)) (then c.decimal_into-last.ensures c.u8_into.ensures.1)
