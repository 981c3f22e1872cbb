-- `words::read_number` meets its contract. The loop's invariant: the number goes on from n by the digits left. Assumes nothing.
use Prim.Native.Nat.{◌+◌, ◌-◌, ◌*◌}
use mathlib.Core.Path.{◌≡◌, sym, ap, ◌∙◌}
use native.Mathlib.Omega.{arith}
use lib.ListN.{get_or, drop}
use Rattle.model.specs.Text.{number_from, is_digit}
use Rattle.words.proofs.Laws.{no_digits, digits, no_digit, large, digit, all_read}
use Rattle.words.proofs.read_number.Goals as goal

pub returns-then-is_empty : goal.returns-then-is_empty
returns-then-is_empty c = sym (no_digits c.args.w.now (grind arith))

pub loop-c-init : goal.loop-c-init
loop-c-init c = digits c.args.w.now (λ e. grind arith)

pub returns-then-not-is_digit : goal.returns-then-not-is_digit
unfolding is_digit
returns-then-not-is_digit c =
    let l = c.loop-c in
    sym (no_digit c.args.w.now l.c-index l.n (omega arith) (sym c.is_digit.ensures ∙ c.if-not-is_digit.true)) ∙ l.invariant

pub overflow_sub-c : goal.overflow_sub-c
unfolding is_digit
overflow_sub-c c = let is = sym c.is_digit.ensures ∙ c.if-not-is_digit.false in grind (arith, is)

pub returns-in_err-checked_mul : goal.returns-in_err-checked_mul
unfolding is_digit
returns-in_err-checked_mul c =
    let l = c.loop-c in
    let is = sym c.is_digit.ensures ∙ c.if-not-is_digit.false in
    c.from_residual.ensures ∙ sym (large c.args.w.now l.c-index l.n (omega arith) is (grind (arith, c.in_err-checked_mul.ensures))) ∙ l.invariant

pub returns-in_err-n : goal.returns-in_err-n
unfolding is_digit
returns-in_err-n c =
    let l = c.loop-c in
    let is = sym c.is_digit.ensures ∙ c.if-not-is_digit.false in
    c.from_residual-in_err-n.ensures ∙ sym (large c.args.w.now l.c-index l.n (omega arith) is (grind (arith, c.in_err-n.ensures, c.in_ok-checked_mul.ensures, c.from.ensures))) ∙ l.invariant

pub loop-c-preserved : goal.loop-c-preserved
unfolding is_digit
loop-c-preserved c =
    let l = c.loop-c in
    let w = c.args.w.now in
    let is = sym c.is_digit.ensures ∙ c.if-not-is_digit.false in
    let more : c.in_ok-n.n ≡ l.n * 10 + (get_or w l.c-index 0 - 48) = grind (arith, c.in_ok-n.ensures, c.in_ok-checked_mul.ensures, c.from.ensures) in
    ap (λ n. number_from n (drop (l.c-index + 1) w)) more
    ∙ sym (digit w l.c-index l.n (omega arith) is (grind (arith, c.in_ok-n.ensures, c.in_ok-checked_mul.ensures, c.from.ensures)))
    ∙ l.invariant

pub returns : goal.returns
returns c =
    let l = c.loop-c in
    sym (all_read c.args.w.now l.c-index l.n (omega arith)) ∙ l.invariant
