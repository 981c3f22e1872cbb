-- Laws of two words, of numbers and of octets as text, one octet on. Assumes nothing.
use Prim.Native.Nat.{ℕ, suc, ◌+◌, ◌-◌, ◌*◌, ◌%◌, ◌≤◌, ◌<◌}
use mathlib.Core.Path.{◌≡◌, refl, sym, ◌∙◌, ap}
use mathlib.Core.Bool.{Bool, true, false, cond, ◌&&◌}
use Rattle.std.specs.Prelude.{Option, None, Some, nat_eq}
use mathlib.Core.List.{List, [], ◌∷◌, ◌++◌, append_assoc}
use native.Mathlib.Omega.{arith}
use native.Mathlib.Numerals.{add-one}
use lib.ListN.{length, drop, get_or, drop_of_length-le}
use lib.Seq.{drop-cons}
use lib.Dec.{eqb, ltb, leb}
use borrow.Author.Tests.{lt-ltb, le-ltb, leb-true}
use Rattle.model.proofs.Tests.{left, right}
use Rattle.model.specs.Text.{is_word, is_digit, only_if, number_from, number_of, nibble, octet_before, unhex}
use Rattle.std.specs.Char.{digit_value}
use Rattle.std.specs.Option.{SomeIff}
use Rattle.std.specs.Cmp.Lexicographic.{pointwise}

-- ── Two words ───────────────────────────────────────────────────────────────────────────────────────────────────────

pub word_test : (a b : List ℕ) → pointwise nat_eq a b ≡ is_word a b
unfolding is_word
word_test [] [] = refl
word_test [] (y ∷ ys) = refl
word_test (x ∷ xs) [] = refl
word_test (x ∷ xs) (y ∷ ys) = ap (λ t. eqb x y && t) (word_test xs ys)

-- ── Numbers ─────────────────────────────────────────────────────────────────────────────────────────────────────────

pub no_digits : (w : List ℕ) → length w ≡ 0 → number_of w ≡ None
unfolding number_of
no_digits [] e = refl
no_digits (c ∷ cs) e = absurd (omega (arith, e))

pub digits : (w : List ℕ) → (length w ≡ 0 → ⊥) → number_from 0 w ≡ number_of w
unfolding number_of
digits [] e = absurd (e refl)
digits (c ∷ cs) e = refl

module _ (w : List ℕ) (i n : ℕ) where
  pub all_read : length w ≤ i → number_from n (drop i w) ≡ Some n
  unfolding number_from
  all_read h = rw (drop_of_length-le w h) refl

  one_digit :
      i < length w
      → number_from n (drop i w)
      ≡ only_if (is_digit (get_or w i 0)) (only_if (ltb (n * 10 + (get_or w i 0 - 48)) 0x1_0000_0000_0000_0000) (number_from (n * 10 + (get_or w i 0 - 48)) (drop (i + 1) w)))
  unfolding number_from
  one_digit h = rw (drop-cons w i 0 h, add-one) refl

  pub no_digit : i < length w → is_digit (get_or w i 0) ≡ false → number_from n (drop i w) ≡ None
  no_digit h e = one_digit h ∙ rw e refl

  module _ (h : i < length w) (is : is_digit (get_or w i 0) ≡ true) where
    here : number_from n (drop i w) ≡ only_if (ltb (n * 10 + (get_or w i 0 - 48)) 0x1_0000_0000_0000_0000) (number_from (n * 10 + (get_or w i 0 - 48)) (drop (i + 1) w))
    here = one_digit h ∙ rw is refl

    pub large : 0x1_0000_0000_0000_0000 ≤ n * 10 + (get_or w i 0 - 48) → number_from n (drop i w) ≡ None
    large e = here ∙ simp (le-ltb _ _ e)

    pub digit : n * 10 + (get_or w i 0 - 48) < 0x1_0000_0000_0000_0000 → number_from n (drop i w) ≡ number_from (n * 10 + (get_or w i 0 - 48)) (drop (i + 1) w)
    digit e = here ∙ simp (lt-ltb _ _ e)

-- ── Octets ──────────────────────────────────────────────────────────────────────────────────────────────────────────

-- The octets read so far, before those that follow.
abbrev pub after : List ℕ → Option (List ℕ) → Option (List ℕ)
after xs None = None
after xs (Some ys) = Some (xs ++ ys)

pub after_none : (r : Option (List ℕ)) → r ≡ after [] r
after_none None = refl
after_none (Some ys) = refl

-- by the range that holds
nibble_in :
    (c n : ℕ) (d u l : Bool)
    → (leb 48 c && leb c 57) ≡ d
    → (leb 65 c && leb c 70) ≡ u
    → (leb 97 c && leb c 102) ≡ l
    → cond d (Some (c - 48)) (cond u (Some (c - 55)) (cond l (Some (c - 87)) None)) ≡ Some n
    → digit_value c < 16
nibble_in c n true u l d e f h =
    let a = leb-true 48 c (left (leb 48 c) (leb c 57) d) in
    let b = leb-true c 57 (right (leb 48 c) (leb c 57) d) in
    grind arith
nibble_in c n false true l d e f h =
    let a = leb-true 65 c (left (leb 65 c) (leb c 70) e) in
    let b = leb-true c 70 (right (leb 65 c) (leb c 70) e) in
    grind arith
nibble_in c n false false true d e f h =
    let a = leb-true 97 c (left (leb 97 c) (leb c 102) f) in
    let b = leb-true c 102 (right (leb 97 c) (leb c 102) f) in
    grind arith
nibble_in c n false false false d e f h = grind arith

nibble_some : (c n : ℕ) → nibble c ≡ Some n → digit_value c < 16
unfolding nibble is_digit
nibble_some c n e = nibble_in c n _ _ _ refl refl refl e

none_by : (c : ℕ) (r : Option ℕ) → nibble c ≡ r → ¬ (digit_value c < 16) → None ≡ r
none_by c None e h = refl
none_by c (Some n) e h = absurd (h (nibble_some c n e))

some_is : (c n : ℕ) → digit_value c < 16 → n ≡ digit_value c → Some n ≡ nibble c
unfolding nibble is_digit
some_is c n h e = grind arith

pub nibble_is : (c : ℕ) (r : Option ℕ) → SomeIff r (digit_value c < 16) (digit_value c) → r ≡ nibble c
nibble_is c None h = none_by c (nibble c) refl h
nibble_is c (Some n) h = some_is c n h.0 h.1

after_more : (xs : List ℕ) (high low : ℕ) (rest : Option (List ℕ)) → after xs (octet_before (Some high) (Some low) rest) ≡ after (xs ++ ((high * 16 + low) ∷ [])) rest
after_more xs high low None = refl
after_more xs high low (Some ys) = ap Some (sym (append_assoc xs ((high * 16 + low) ∷ []) ys))

no_rest : (high low : Option ℕ) → octet_before high low None ≡ None
no_rest None low = refl
no_rest (Some high) None = refl
no_rest (Some high) (Some low) = refl

no_low : (high : Option ℕ) (rest : Option (List ℕ)) → octet_before high None rest ≡ None
no_low None rest = refl
no_low (Some high) rest = refl

module _ (w : List ℕ) (i : ℕ) where
  next : i + 1 < length w → unhex (drop i w) ≡ octet_before (nibble (get_or w i 0)) (nibble (get_or w (i + 1) 0)) (unhex (drop (i + 2) w))
  unfolding unhex
  next h =
      let two : suc (i + 1) ≡ i + 2 = omega arith in
      rw (drop-cons w i 0 (omega arith), sym (add-one i), drop-cons w (i + 1) 0 h, two) refl

  module _ (h : i + 1 < length w) where
    pub bad_high : None ≡ nibble (get_or w i 0) → unhex (drop i w) ≡ None
    bad_high e = next h ∙ rw (sym e) refl

    pub bad_low : None ≡ nibble (get_or w (i + 1) 0) → unhex (drop i w) ≡ None
    bad_low e = next h ∙ rw (sym e) (no_low (nibble (get_or w i 0)) (unhex (drop (i + 2) w)))

    pub octet_on : (high low : ℕ) → Some high ≡ nibble (get_or w i 0) → Some low ≡ nibble (get_or w (i + 1) 0) → (xs : List ℕ)
        → after xs (unhex (drop i w)) ≡ after (xs ++ ((high * 16 + low) ∷ [])) (unhex (drop (i + 2) w))
    octet_on high low e f xs = rw (next h, sym e, sym f) (after_more xs high low (unhex (drop (i + 2) w)))

  pub even : length w ≤ i → unhex (drop i w) ≡ Some []
  unfolding unhex
  even l = rw (drop_of_length-le w l) refl

pub odd_word : (w : List ℕ) → (length w % 2 ≡ 0 → ⊥) → unhex w ≡ None
unfolding unhex
odd_word [] h = absurd (h refl)
odd_word (a ∷ []) h = refl
odd_word (a ∷ b ∷ cs) h = rw (odd_word cs (λ e. h (omega arith))) (no_rest (nibble a) (nibble b))
