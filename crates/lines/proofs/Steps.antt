-- Laws of reading from separator to separator: the fields behind one are the next field and the fields behind the next. Assumes nothing.
use Prim.Native.Nat.{ℕ, suc, ◌+◌, ◌-◌, ◌≤◌, ◌<◌}
use mathlib.Core.Path.{◌≡◌, refl, ap, ◌∙◌}
use mathlib.Core.Bool.{Bool, true, false, ◌&&◌}
use Rattle.std.specs.Prelude.{Option, None, Some}
use mathlib.Core.List.{List, [], ◌∷◌}
use native.Mathlib.Omega.{arith}
use native.Mathlib.Numerals.{add-one}
use lib.Dec.{eqb}
use lib.ListN.{length, take, drop, get_or, drop_of_length-le}
use lib.Seq.{drop-cons}
use borrow.Author.Tests.{ne_eqb}
use Rattle.model.specs.Text.{is_word, only_if}
use Rattle.model.specs.Listing.{key_word}
use Rattle.model.specs.Lines.{Fields, parted, fields_from, fields_of, is_key_line, plain_number, given, field, no_more, worded}
use Rattle.lines.specs.Fields.{field_size, headed, further_at, and_rest, taken, up_to, triple_said, last_numbers}
use Rattle.lines.proofs.Laws.{first_is, behind, bare, fields_at}

-- ── The first field ─────────────────────────────────────────────────────────────────────────────────────────────────

none_only : {A : Type 0} (b : Bool) → ◌≡◌ {A = Option A} None (only_if b None)
none_only true = refl
none_only false = refl

module _ (l : List ℕ) (r : ℕ) (is : r ≡ 0 + field_size l) where
  pub key_word_lem : is_word (take r l) key_word ≡ is_key_line l
  unfolding is_key_line
  key_word_lem = let size : r ≡ field_size l = omega arith in rw (size, first_is l) refl

  pub first_word : (word : List ℕ) → headed word l ≡ only_if (is_word (take r l) word) (further_at l r)
  unfolding headed
  first_word word = let size : r - 0 ≡ r = omega arith in go (further_at l r) (rw size at (fields_at l 0 r is))
    where
      go : (o : Option (List (List ℕ))) → fields_of l ≡ behind (take r l) o → given (fields_of l) (λ w. only_if (is_word w.first word) (Some w.further)) ≡ only_if (is_word (take r l) word) o
      go None e = rw e (none_only (is_word (take r l) word))
      go (Some fs) e = rw e refl

-- What is said of the fields behind the first.
module _ {B : Type 0} (word l : List ℕ) (k : List (List ℕ) → Option B) where
  by_head : worded word l k ≡ given (headed word l) k
  unfolding headed
  by_head = go (fields_of l)
    where
      only : (b : Bool) (fs : List (List ℕ)) → only_if b (k fs) ≡ given (only_if b (Some fs)) k
      only true fs = refl
      only false fs = refl

      go : (o : Option Fields) → given o (λ w. only_if (is_word w.first word) (k w.further)) ≡ given (given o (λ w. only_if (is_word w.first word) (Some w.further))) k
      go None = refl
      go (Some w) = only (is_word w.first word) w.further

  pub unheaded : headed word l ≡ None → worded word l k ≡ None
  unheaded e = by_head ∙ rw e refl

  pub begins : (at : ℕ) → headed word l ≡ further_at l at → worded word l k ≡ given (further_at l at) k
  begins at e = by_head ∙ rw e refl

-- ── The next field ──────────────────────────────────────────────────────────────────────────────────────────────────

abbrev next_of : Option (List (List ℕ)) → Option (List ℕ × List (List ℕ))
next_of o = given o λ fs. field Some fs and_rest

other_next : (n : Bool) (c : ℕ) (cs : List ℕ) (o : Option Fields) → next_of (bare (fields_from n false c cs o)) ≡ None
unfolding is_word
other_next true c [] o = refl
other_next true c (d ∷ ds) o = refl
other_next false c cs None = refl
other_next false c cs (Some w) = refl

tab_next : (f : List ℕ) (o : Option (List (List ℕ))) → next_of (bare (parted (behind f o))) ≡ given o (and_rest f)
unfolding is_word
tab_next f None = refl
tab_next f (Some fs) = refl

module _ (l : List ℕ) (at : ℕ) where
  pub past_end : length l ≤ at → taken Some l at ≡ None
  unfolding taken further_at headed fields_of
  past_end h = rw (drop_of_length-le l h) refl

  pub no_tab : at < length l → (get_or l at 0 ≡ 9 → ⊥) → taken Some l at ≡ None
  unfolding taken further_at headed fields_of
  no_tab h e = rw (drop-cons l at 0 h, ne_eqb (get_or l at 0) 9 e) (other_next (eqb (get_or l at 0) 10) (get_or l at 0) (drop (suc at) l) (fields_of (drop (suc at) l)))

  tab_first : at < length l → get_or l at 0 ≡ 9 → drop at l ≡ 9 ∷ drop (at + 1) l
  tab_first h e = rw (drop-cons l at 0 h, e, add-one) refl

  pub tab : at < length l → get_or l at 0 ≡ 9 → (r : ℕ) → r ≡ at + 1 + field_size (drop (at + 1) l) → taken Some l at ≡ up_to l (take (r - (at + 1)) (drop (at + 1) l)) r
  unfolding taken further_at headed fields_of
  tab h e r is = rw (tab_first h e, fields_at l (at + 1) r is) (tab_next (take (r - (at + 1)) (drop (at + 1) l)) (further_at l r))

module _ {A : Type 0} (says : List ℕ → Option A) (l : List ℕ) (at : ℕ) where
  abbrev saying : List ℕ × List (List ℕ) → Option (A × List (List ℕ))
  saying p = given (says p.0) λ a. and_rest a p.1

  by_field : taken says l at ≡ given (taken Some l at) saying
  unfolding taken
  by_field = go (further_at l at)
    where
      go : (o : Option (List (List ℕ))) → given o (λ fs. field says fs and_rest) ≡ given (next_of o) saying
      go None = refl
      go (Some []) = refl
      go (Some (f ∷ fs)) = refl

  pub no_field : taken Some l at ≡ None → taken says l at ≡ None
  no_field e = by_field ∙ rw e refl

  pub field_says : (f : List ℕ) (next : ℕ) (o : Option A) → taken Some l at ≡ up_to l f next → says f ≡ o → taken says l at ≡ given o (λ a. up_to l a next)
  field_says f next o e is = by_field ∙ rw e (go (further_at l next) o is)
    where
      go : (p : Option (List (List ℕ))) (o : Option A) → says f ≡ o → given (given p (and_rest f)) saying ≡ given o (λ a. given p (and_rest a))
      go None None is = refl
      go None (Some a) is = refl
      go (Some rest) None is = rw is refl
      go (Some rest) (Some a) is = rw is refl

-- ── What is said of the fields behind a separator ───────────────────────────────────────────────────────────────────

module _ {A B : Type 0} (says : List ℕ → Option A) (l : List ℕ) (at : ℕ) (k : A → List (List ℕ) → Option B) where
  abbrev going : A × List (List ℕ) → Option B
  going p = k p.0 p.1

  continues : given (further_at l at) (λ fs. field says fs k) ≡ given (taken says l at) going
  unfolding taken
  continues = go (further_at l at)
    where
      one : (o : Option A) (fs : List (List ℕ)) → given o (λ a. k a fs) ≡ given (given o (λ a. and_rest a fs)) going
      one None fs = refl
      one (Some a) fs = refl

      go : (o : Option (List (List ℕ))) → given o (λ fs. field says fs k) ≡ given (given o (λ fs. field says fs and_rest)) going
      go None = refl
      go (Some []) = refl
      go (Some (f ∷ fs)) = one (says f) fs

  pub stops : taken says l at ≡ None → given (further_at l at) (λ fs. field says fs k) ≡ None
  stops e = continues ∙ rw e refl

  pub steps : (a : A) (next : ℕ) → taken says l at ≡ up_to l a next → given (further_at l at) (λ fs. field says fs k) ≡ given (further_at l next) (k a)
  steps a next e = continues ∙ rw e (go (further_at l next))
    where
      go : (o : Option (List (List ℕ))) → given (given o (and_rest a)) going ≡ given o (k a)
      go None = refl
      go (Some rest) = refl

-- No more fields: the newline is all that is left.
end_from : {B : Type 0} (b : B) (n t : Bool) (c : ℕ) (cs : List ℕ) (o : Option Fields) → given (bare (fields_from n t c cs o)) (λ fs. no_more fs b) ≡ only_if (n && is_word cs []) (Some b)
unfolding is_word
end_from b true t c [] o = refl
end_from b true t c (d ∷ ds) o = refl
end_from b false true c cs None = refl
end_from b false true c cs (Some w) = refl
end_from b false false c cs None = refl
end_from b false false c cs (Some w) = refl

end_of : {B : Type 0} (b : B) (s : List ℕ) → given (headed [] s) (λ fs. no_more fs b) ≡ only_if (is_word s (10 ∷ [])) (Some b)
unfolding headed fields_of is_word
end_of b [] = refl
end_of b (c ∷ cs) = end_from b (eqb c 10) (eqb c 9) c cs (fields_of cs)

pub ends : {B : Type 0} (l : List ℕ) (at : ℕ) (b : B) → given (further_at l at) (λ fs. no_more fs b) ≡ only_if (is_word (drop at l) (10 ∷ [])) (Some b)
unfolding further_at
ends l at b = end_of b (drop at l)

-- ── Three numbers ───────────────────────────────────────────────────────────────────────────────────────────────────

field_given :
    {A B C : Type 0} (says : List ℕ → Option A) (j : A → List (List ℕ) → Option B) (h : B → Option C) (fs : List (List ℕ))
    → field says fs (λ a gs. given (j a gs) h) ≡ given (field says fs j) h
field_given {A} {B} {C} says j h [] = refl
field_given {A} {B} {C} says j h (f ∷ fs) = go (says f)
  where
    go : (o : Option A) → given o (λ a. given (j a fs) h) ≡ given (given o (λ a. j a fs)) h
    go None = refl
    go (Some a) = refl

-- What is said by three numbers, by the triple.
module _ {B : Type 0} (k : ℕ → ℕ → ℕ → B) where
  abbrev pub saidBy : List (List ℕ) → Option B
  saidBy fs =
      field plain_number fs λ a fs.
      field plain_number fs λ b fs.
      field plain_number fs λ c fs.
      no_more fs (k a b c)

  abbrev pub triplet : ℕ × ℕ × ℕ → Option B
  triplet t = Some (k t.0 t.1 t.2)

  abbrev triple_of : ℕ → ℕ → ℕ → List (List ℕ) → Option (ℕ × ℕ × ℕ)
  triple_of a b c fs = no_more fs (a, b, c)

  no_more_lem : (a b c : ℕ) (fs : List (List ℕ)) → no_more fs (k a b c) ≡ given (triple_of a b c fs) triplet
  no_more_lem a b c [] = refl
  no_more_lem a b c (f ∷ fs) = refl

  by_third : (a b : ℕ) (fs : List (List ℕ)) → field plain_number fs (λ c gs. no_more gs (k a b c)) ≡ given (field plain_number fs (triple_of a b)) triplet
  by_third a b fs = (λ i. field plain_number fs (λ c gs. no_more_lem a b c gs i)) ∙ field_given plain_number (triple_of a b) triplet fs

  by_second_lem :
      (a : ℕ) (fs : List (List ℕ))
      → field plain_number fs (λ b gs. field plain_number gs λ c gs. no_more gs (k a b c)) ≡ given (field plain_number fs λ b gs. field plain_number gs (triple_of a b)) triplet
  by_second_lem a fs = (λ i. field plain_number fs (λ b gs. by_third a b gs i)) ∙ field_given plain_number (λ b gs. field plain_number gs (triple_of a b)) triplet fs

  by_triple : (fs : List (List ℕ)) → saidBy fs ≡ given (triple_said fs) triplet
  by_triple fs = (λ i. field plain_number fs (λ a gs. by_second_lem a gs i)) ∙ field_given plain_number (λ a gs. field plain_number gs λ b gs. field plain_number gs (triple_of a b)) triplet fs

  pub numbers_are : (l : List ℕ) (at : ℕ) (o : Option (ℕ × ℕ × ℕ)) → last_numbers l at ≡ o → given (further_at l at) saidBy ≡ given o triplet
  unfolding last_numbers
  numbers_are l at o e = go (further_at l at) ∙ ap (λ (o : Option (ℕ × ℕ × ℕ)). given o triplet) e
    where
      go : (p : Option (List (List ℕ))) → given p saidBy ≡ given (given p triple_said) triplet
      go None = refl
      go (Some fs) = by_triple fs
