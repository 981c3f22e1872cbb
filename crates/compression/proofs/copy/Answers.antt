-- `compression::copy` meets its contract. Assumes nothing.
use Prim.Native.Nat.{ℕ, ◌<◌, ◌+◌}
use mathlib.Core.Path.{◌≡◌, refl}
use mathlib.Core.List.{List, ◌++◌, append_assoc, append-nil}
use native.Mathlib.Omega.{arith}
use native.Mathlib.Nat.{add_assoc, add-zero}
use native.Mathlib.Numerals.{add-one}
use borrow.Author.Rules.{rules}
use lib.ListN.{length, take, drop, set, get_or, length-set, length-drop}
use lib.Seq.{take-suc-set, take-suc, get_or-drop}
use Rattle.compression.proofs.copy.Goals as goal

-- one octet more
more : (m out out₀ : List ℕ) (from to i : ℕ) → from + i < length m → to + i < length out
    → take (to + i) out ≡ take to out₀ ++ take i (drop from m)
    → take (to + (i + 1)) (set out (to + i) (get_or m (from + i) 0)) ≡ take to out₀ ++ take (i + 1) (drop from m)
more m out out₀ from to i hm ho e =
    let hd : i < length (drop from m) = rw length-drop (omega arith) in
    rw (← add_assoc to i 1, add-one (to + i), take-suc-set out (to + i) (get_or m (from + i) 0) ho, e, add-one i, take-suc (drop from m) i 0 hd, get_or-drop from m i 0, append_assoc) refl

pub loop-i-init : goal.loop-i-init
loop-i-init c = (search rules, rw (add-zero, append-nil) refl)

pub loop-i-preserved : goal.loop-i-preserved
loop-i-preserved c =
    let a = c.args in
    (simp length-set c.loop-i.invariant.0, more a.m.now c.loop-i.out a.out.now a.from a.to c.loop-i.i (omega arith) (omega arith) c.loop-i.invariant.1)

pub returns : goal.returns
returns c =
    let a = c.args in
    let e : c.loop-i.i ≡ a.n = omega arith in
    (c.loop-i.invariant.0, rw e at c.loop-i.invariant.1)
