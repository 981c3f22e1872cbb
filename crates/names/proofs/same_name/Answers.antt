-- `names::same_name` meets its contract. The loop's invariant: the names are the same if what is left of them is. Assumes nothing.
use Prim.Native.Nat.{ℕ, ◌≤◌, ◌<◌, ◌+◌}
use mathlib.Core.Path.{◌≡◌, refl, sym, ap, ◌∙◌}
use mathlib.Core.List.{List}
use mathlib.Core.Bool.{true, ◌&&◌}
use native.Mathlib.Omega.{arith}
use native.Mathlib.Numerals.{add-one}
use lib.Dec.{eqb}
use lib.ListN.{length, drop, get_or, drop_of_length-le}
use lib.Seq.{drop-cons}
use Rattle.model.specs.Names.{lower_of, same_name}
use Rattle.names.proofs.Same.{apart}
use Rattle.names.proofs.Fronts.{same_after, itself}
use Rattle.names.proofs.same_name.Goals as goal

module _ (a b : List ℕ) (i : ℕ) where
  one : i < length a → i < length b → same_name (drop i a) (drop i b) ≡ (eqb (lower_of (get_or a i 0)) (lower_of (get_or b i 0)) && same_name (drop (i + 1) a) (drop (i + 1) b))
  unfolding same_name
  one ha hb = rw (drop-cons a i 0 ha, drop-cons b i 0 hb, add-one) refl

  none : length a ≤ i → length b ≤ i → same_name (drop i a) (drop i b) ≡ true
  unfolding same_name
  none ha hb = rw (drop_of_length-le a ha, drop_of_length-le b hb) refl

pub returns-then-a-b : goal.returns-then-a-b
returns-then-a-b c = sym (apart _ _ (λ e. omega arith))

pub same_back-requires : goal.same_back-requires
same_back-requires c = (omega arith, omega arith, c.same_front-i.ensures.2)

pub returns-then-same_back : goal.returns-then-same_back
returns-then-same_back c =
    let a = c.args in
    sym (ap (same_name a.a.now) (sym (c.same_back.ensures c.if-same_back.true)) ∙ itself a.a.now)

pub loop-k-init : goal.loop-k-init
loop-k-init c = same_after _ _ c.same_front-i.result c.same_front-i.ensures.2

pub returns-then-not-same_octet : goal.returns-then-not-same_octet
returns-then-not-same_octet c =
    let a = c.args in
    let step = c.loop-k.invariant ∙ one a.a.now a.b.now c.loop-k.k (omega arith) (omega arith) in
    sym (step ∙ simp (sym c.same_octet.ensures ∙ c.if-not-same_octet.true))

pub loop-k-preserved : goal.loop-k-preserved
loop-k-preserved c =
    let a = c.args in
    let step = c.loop-k.invariant ∙ one a.a.now a.b.now c.loop-k.k (omega arith) (omega arith) in
    step ∙ simp (sym c.same_octet.ensures ∙ c.if-not-same_octet.false)

pub returns : goal.returns
returns c =
    let a = c.args in
    sym (c.loop-k.invariant ∙ none a.a.now a.b.now c.loop-k.k (omega arith) (omega arith))
