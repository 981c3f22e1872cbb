-- Names with the same front: eight octets more of it, what is left after it, and names whose last eight octets are the same too. Assumes nothing.
use Prim.Native.Nat.{ℕ, suc, ◌+◌, ◌-◌, ◌≤◌, ◌<◌}
use mathlib.Core.Path.{◌≡◌, refl, sym, ap, ap₂, ◌∙◌}
use mathlib.Core.List.{List, [], ◌∷◌, ◌++◌}
use mathlib.Core.Bool.{Bool, true, ◌&&◌}
use native.Mathlib.Omega.{arith}
use borrow.Author.Tests.{eqb-true, eq-eqb}
use lib.Dec.{eqb}
use lib.ListN.{length, take, drop, get_or, take-append-drop}
use lib.Seq.{take-suc, take-take, take_all}
use Rattle.model.specs.declared.Algorithm.{Algorithm}
use Rattle.model.specs.declared.Algorithm.TheVariants.{Sha256, Sha384, Sha512}
use Rattle.model.specs.Names.{lower_of, same_name, algorithm_name}
use Rattle.model.proofs.Tests.{left, right}
use Rattle.names.specs.Fronts.{same_at, same_eight, is_spelt}

module _ (a b : List ℕ) (i : ℕ) (ha : i + 8 ≤ length a) (hb : i + 8 ≤ length b) where
  -- one octet more, where a test says that it is the same
  more : (t : Bool) (k n : ℕ) → k < i + 8 → n ≡ suc k → (t ≡ true → take k a ≡ take k b) → (t && same_at a b k) ≡ true → take n a ≡ take n b
  more t k n h z front e =
      let same = eqb-true (get_or a k 0) (get_or b k 0) (right t (same_at a b k) e) in
      rw (z, take-suc a k 0 (omega arith), take-suc b k 0 (omega arith)) (ap₂ (λ (x : List ℕ) (y : ℕ). x ++ (y ∷ [])) (front (left t (same_at a b k) e)) same)

  pub eight : take i a ≡ take i b → same_eight a b i ≡ true → take (i + 8) a ≡ take (i + 8) b
  eight e =
      more _ (i + 7) (i + 8) (omega arith) (omega arith)
      (more _ (i + 6) (i + 7) (omega arith) (omega arith)
      (more _ (i + 5) (i + 6) (omega arith) (omega arith)
      (more _ (i + 4) (i + 5) (omega arith) (omega arith)
      (more _ (i + 3) (i + 4) (omega arith) (omega arith)
      (more _ (i + 2) (i + 3) (omega arith) (omega arith)
      (more _ (i + 1) (i + 2) (omega arith) (omega arith)
      (more true i (i + 1) (omega arith) (omega arith) (λ t. e))))))))

-- the same front, and the last eight octets the same: nothing is left between the two
pub whole : (a b : List ℕ) (i : ℕ) → length a ≡ length b → 8 ≤ length a → length a - i < 8 → take i a ≡ take i b → same_eight a b (length a - 8) ≡ true → a ≡ b
whole a b i l size few e t =
    let k = length a - 8 in
    let front : take k a ≡ take k b = sym (take-take k i a (omega arith)) ∙ ap (take k) e ∙ take-take k i b (omega arith) in
    sym (take_all (k + 8) a (omega arith)) ∙ eight a b k (omega arith) (omega arith) front t ∙ take_all (k + 8) b (omega arith)

pub itself : (a : List ℕ) → same_name a a ≡ true
unfolding same_name
itself [] = refl
itself (x ∷ a) = simp (eq-eqb (lower_of x) (lower_of x) refl) (itself a)

after : (p a b : List ℕ) → same_name (p ++ a) (p ++ b) ≡ same_name a b
unfolding same_name
after [] a b = refl
after (x ∷ p) a b = simp (eq-eqb (lower_of x) (lower_of x) refl) (after p a b)

-- names are the same if what is left of them after the same front is
pub same_after : (a b : List ℕ) (n : ℕ) → take n a ≡ take n b → same_name a b ≡ same_name (drop n a) (drop n b)
same_after a b n e =
    ap₂ same_name (sym (take-append-drop n a)) (sym (take-append-drop n b) ∙ ap (λ (p : List ℕ). p ++ drop n b) (sym e))
    ∙ after (take n a) (drop n a) (drop n b)

-- a name of 13 octets that is spelt as an algorithm's is that name
module _ (a : List ℕ) (x y z : ℕ) (size : length a ≡ 13) where
  abbrev spelt : List ℕ
  spelt = 11 ∷ 104 ∷ 109 ∷ 97 ∷ 99 ∷ 45 ∷ 115 ∷ 104 ∷ 97 ∷ x ∷ y ∷ z ∷ 0 ∷ []

  one : (t : Bool) (k n c : ℕ) → k < 13 → n ≡ suc k → get_or spelt k 0 ≡ c → (t ≡ true → take k a ≡ take k spelt) → (t && eqb (get_or a k 0) c) ≡ true → take n a ≡ take n spelt
  one t k n c h i is front e =
      let same : get_or a k 0 ≡ get_or spelt k 0 = eqb-true (get_or a k 0) c (right t (eqb (get_or a k 0) c) e) ∙ sym is in
      rw (i, take-suc a k 0 (omega arith), take-suc spelt k 0 h) (ap₂ (λ (u : List ℕ) (v : ℕ). u ++ (v ∷ [])) (front (left t (eqb (get_or a k 0) c) e)) same)

  pub spelt_is : is_spelt a x y z ≡ true → a ≡ spelt
  spelt_is e =
      sym (take_all 13 a (omega arith))
      ∙ one _ 12 13 _ (omega arith) refl refl
      (one _ 11 12 _ (omega arith) refl refl
      (one _ 10 11 _ (omega arith) refl refl
      (one _ 9 10 _ (omega arith) refl refl
      (one _ 8 9 _ (omega arith) refl refl
      (one _ 7 8 _ (omega arith) refl refl
      (one _ 6 7 _ (omega arith) refl refl
      (one _ 5 6 _ (omega arith) refl refl
      (one _ 4 5 _ (omega arith) refl refl
      (one _ 3 4 _ (omega arith) refl refl
      (one _ 2 3 _ (omega arith) refl refl
      (one _ 1 2 _ (omega arith) refl refl
      (one true 0 1 _ (omega arith) refl refl (λ _. refl))))))))))))) e

pub thirteen : (g : Algorithm) → length (algorithm_name g) ≡ 13
unfolding algorithm_name
thirteen Sha256 = refl
thirteen Sha384 = refl
thirteen Sha512 = refl
