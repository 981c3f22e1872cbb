-- `words::unhex_into` meets its contract. The loop's invariant: the octets are those read so far, and then those that what is left says. Assumes nothing.
use Prim.Native.Nat.{ℕ, ◌+◌, ◌*◌, ◌/◌}
use mathlib.Core.Path.{◌≡◌, refl, sym, ◌∙◌, ap}
use Rattle.std.specs.Prelude.{Option, None, Some}
use mathlib.Core.List.{List, [], ◌∷◌, ◌++◌, append-nil}
use native.Mathlib.Omega.{arith}
use native.Mathlib.Numerals.{add-one}
use lib.ListN.{length, take, drop, set, length-set}
use lib.Seq.{take-suc-set}
use Rattle.model.specs.Text.{unhex}
use Rattle.words.specs.Reads.{OctetsRead}
use Rattle.words.proofs.Laws.{after, bad_high, bad_low, octet_on, odd_word, even}
use Rattle.words.proofs.unhex_into.Goals as goal

refused : (w b b' : List ℕ) (r : Option ℕ) → r ≡ None → unhex w ≡ None → length b' ≡ length b → OctetsRead (unhex w) b b' r
refused w b b' r e n l = rw e record { are = n; fits = tt; long = l }

pub returns-then-w-ne0 : goal.returns-then-w-ne0
returns-then-w-ne0 c = refused _ _ _ _ refl (odd_word c.args.w.now c.if-w-ne0.true) refl

pub returns-in_err-high : goal.returns-in_err-high
returns-in_err-high c =
    let l = c.loop-n in
    let n = bad_high c.args.w.now (2 * l.n) (omega arith) c.in_err-high.ensures.value in
    refused _ _ _ _ c.from_residual.ensures (l.invariant.1 ∙ ap (after _) n) l.invariant.0

pub returns-in_err-low : goal.returns-in_err-low
returns-in_err-low c =
    let l = c.loop-n in
    let n = bad_low c.args.w.now (2 * l.n) (omega arith) c.in_err-low.ensures.value in
    refused _ _ _ _ c.from_residual-in_err-low.ensures (l.invariant.1 ∙ ap (after _) n) l.invariant.0

pub loop-n-preserved : goal.loop-n-preserved
loop-n-preserved c =
    let l = c.loop-n in
    let w = c.args.w.now in
    let high = c.in_ok-high.high in
    let low = c.in_ok-low.low in
    let on = octet_on w (2 * l.n) (omega arith) high low c.in_ok-high.ensures.value c.in_ok-low.ensures.value (take l.n l.out) in
    let more : take (l.n + 1) (set l.out l.n (high * 16 + low)) ≡ take l.n l.out ++ ((high * 16 + low) ∷ []) = rw add-one (take-suc-set l.out l.n (high * 16 + low) (omega arith)) in
    let two : 2 * l.n + 2 ≡ 2 * (l.n + 1) = omega arith in (
      length-set l.out l.n _ ∙ l.invariant.0,
      rw two at (l.invariant.1 ∙ on ∙ ap (λ (xs : List ℕ). after xs (unhex (drop (2 * l.n + 2) w))) (sym more)),
    )

pub returns : goal.returns
returns c =
    let l = c.loop-n in
    let w = c.args.w.now in
    let all = even w (2 * l.n) (omega arith) in
    let n : l.n ≡ length w / 2 = omega arith in
    let read : OctetsRead (unhex w) c.args.out.now l.out (Some l.n) = record { are = l.invariant.1 ∙ ap (after _) all ∙ ap Some (append-nil _); fits = omega arith; long = l.invariant.0 } in
    rw n at read
