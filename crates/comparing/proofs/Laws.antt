-- Laws of comparing octets and fields. Assumes nothing.
use Prim.Native.Nat.{ℕ, zero, suc, ◌+◌, ◌-◌, ◌≤◌, ◌<◌}
use mathlib.Core.Path.{◌≡◌, refl, ap, sym, ◌∙◌}
use mathlib.Core.Bool.{Bool, true, false, cond, ◌&&◌}
use Rattle.std.specs.Cmp.Lexicographic.{pointwise}
use Rattle.std.specs.Prelude.{nat_eq, Option, None, Some, Result, Err, Ok}
use mathlib.Core.List.{List, [], ◌∷◌, ◌++◌}
use native.Mathlib.Nat.{add_assoc, add-zero}
use native.Mathlib.Numerals.{add-one}
use native.Mathlib.Omega.{arith}
use borrow.Author.Tests.{lt-ltb, le-ltb}
use lib.Dec.{eqb}
use lib.ListN.{length, take, drop, get_or, length-drop, drop_of_length-le}
use lib.Seq.{drop-cons, take_all, length-take-le}
use Rattle.model.specs.Octets.{part, u16_at, Reading, stops, reads}
use Rattle.model.specs.Names.{read_name}
use Rattle.model.specs.Compare.{Placed, question_form, record_form, question_fields, record_fields, same_octets, same_field, first_in}
use Rattle.model.proofs.CompareFields.{Level}
use Rattle.compression.specs.Skip.{NameSkipped}
use Rattle.comparing.specs.Fields.{unless, total, octet_fields, question_size, record_size, NameStands, Stands}
use Rattle.compression.specs.declared.Name.{Name}

-- ── Octets ──────────────────────────────────────────────────────────────────────────────────────────────────────────

pub octets_test : (a b : List ℕ) → pointwise nat_eq a b ≡ same_octets a b
unfolding same_octets
octets_test [] [] = refl
octets_test [] (y ∷ ys) = refl
octets_test (x ∷ xs) [] = refl
octets_test (x ∷ xs) (y ∷ ys) = ap (λ t. eqb x y && t) (octets_test xs ys)

take_nil : (k : ℕ) → take {A = ℕ} k [] ≡ []
take_nil zero = refl
take_nil (suc k) = refl

module _ (m : List ℕ) (from n : ℕ) where
  pub part_none : length m ≤ from → [] ≡ part m from n
  unfolding part
  part_none h = rw (drop_of_length-le m h) (sym (take_nil n))

  pub part_all : length m - from ≤ n → take (length m - from) (drop from m) ≡ part m from n
  unfolding part
  part_all h =
      let l : length (drop from m) ≡ length m - from = length-drop from m in
      take_all (length m - from) (drop from m) (omega arith) ∙ sym (take_all n (drop from m) (omega arith))

  pub part_in : take (from + n - from) (drop from m) ≡ part m from n
  unfolding part
  part_in = let e : from + n - from ≡ n = omega arith in rw e refl

pub part_length : (m : List ℕ) (from n : ℕ) (x : List ℕ) → x ≡ part m from n → from + n ≤ length m → length x ≡ n
unfolding part
part_length m from n x e h = rw e (length-take-le n (drop from m) (rw length-drop (omega arith)))

-- all that is left, as the code takes it
rest_whole : (c : List ℕ) (at : ℕ) → take (length c - at) (drop at c) ≡ drop at c
rest_whole c at = let l : length (drop at c) ≡ length c - at = length-drop at c in take_all (length c - at) (drop at c) (omega arith)

module _ (c d : List ℕ) (at place : ℕ) (t : Bool) (e : t ≡ same_octets (take (length c - at) (drop at c)) (take (length d - at) (drop at d))) where
  tested : t ≡ same_octets (drop at c) (drop at d)
  tested = rw (rest_whole c at, rest_whole d at) at e

  pub rest_same : t ≡ true → None ≡ unless (same_octets (drop at c) (drop at d)) place
  rest_same h = rw (sym tested ∙ h) refl

  pub rest_other : t ≡ false → Some place ≡ unless (same_octets (drop at c) (drop at d)) place
  rest_other h = rw (sym tested ∙ h) refl

-- ── A name, and octets behind it ────────────────────────────────────────────────────────────────────────────────────

-- what stepping over a name answered
pub name_bad : (m : List ℕ) (n : Reading (List ℕ)) (r : Result Name ℕ) (p : ℕ) → NameSkipped m n r → r ≡ Err p → n ≡ stops p
name_bad m n r p s e = rw e at s.read.says

pub name_ends : (m : List ℕ) (n : Reading (List ℕ)) (r : Result Name ℕ) (len next : ℕ) → NameSkipped m n r → r ≡ Ok (record { len = len; next = next }) → next ≤ length m
name_ends m n r len next s e = rw e at s.read.within

pub name_is_lem : (m : List ℕ) (n : Reading (List ℕ)) (r : Result Name ℕ) (len next : ℕ) (s : NameSkipped m n r) → r ≡ Ok (record { len = len; next = next }) → n ≡ reads (take len s.out) next
name_is_lem m n r len next s e = rw e at s.read.says

module _ (m : List ℕ) (at : ℕ) (r : Result Name ℕ) (s : NameSkipped m (read_name m at) r) where
  pub question_unread : (p : ℕ) → r ≡ Err p → Stands question_fields question_size m at None
  unfolding question_fields
  question_unread p e on = rw (name_bad m (read_name m at) r p s e) refl

  pub record_unread : (p : ℕ) → r ≡ Err p → Stands record_fields record_size m at None
  unfolding record_fields
  record_unread p e on = rw (name_bad m (read_name m at) r p s e) refl

  module _ (len next : ℕ) (e : r ≡ Ok (record { len = len; next = next })) where
    pub question_cut : length m < next + 4 → Stands question_fields question_size m at None
    unfolding question_fields
    question_cut h on = rw (name_is_lem m (read_name m at) r len next s e, lt-ltb (length m) (next + 4) h) refl

    pub record_cut : length m < next + 10 + u16_at m (next + 8) → Stands record_fields record_size m at None
    unfolding record_fields
    record_cut h on = rw (name_is_lem m (read_name m at) r len next s e, lt-ltb (length m) (next + 10 + u16_at m (next + 8)) h) refl

    pub name_stands : (size : ℕ) → next + size ≤ length m → NameStands m at next size
    name_stands size h = record { name = _; named = name_is_lem m (read_name m at) r len next s e; fits = h }

-- the fields of a question and of a record that stand there
pub question_standing : (m : List ℕ) (at next : ℕ) (s : NameStands m at next 4) → question_fields m at ≡ reads (question_form m at s.name next) (next + 4)
unfolding question_fields
question_standing m at next s = rw (s.named, le-ltb (length m) (next + 4) s.fits) refl

pub record_standing : (m : List ℕ) (at next : ℕ) (s : NameStands m at next (10 + u16_at m (next + 8)))
    → record_fields m at ≡ reads (record_form m at s.name next) (next + 10 + u16_at m (next + 8))
unfolding record_fields
record_standing m at next s =
    let h : next + 10 + u16_at m (next + 8) ≤ length m = omega (arith, s.fits) in
    rw (s.named, le-ltb (length m) (next + 10 + u16_at m (next + 8)) h) refl

-- ── Fields of octets ────────────────────────────────────────────────────────────────────────────────────────────────

-- k of the widths are passed, `past` octets
pub record Passing (a : List ℕ) (i : ℕ) (b : List ℕ) (j place : ℕ) (ws : List ℕ) (k past : ℕ) : Type 0 where
  pub inside : k ≤ length ws
  pub left : past + total (drop k ws) ≡ total ws
  pub says :
      (end at : ℕ)
      → first_in end (octet_fields a i at ws) (octet_fields b j place ws)
      ≡ first_in end (octet_fields a (i + past) (at + past) (drop k ws)) (octet_fields b (j + past) (place + past) (drop k ws))

pub passing_starts : (a : List ℕ) (i : ℕ) (b : List ℕ) (j place : ℕ) (ws : List ℕ) → Passing a i b j place ws 0 0
passing_starts a i b j place ws = record { inside = omega arith; left = omega arith; says = λ end at. rw (add-zero i, add-zero j, add-zero at, add-zero place) refl }

module _ (a : List ℕ) (i : ℕ) (b : List ℕ) (j place : ℕ) (ws : List ℕ) (k past : ℕ) (g : Passing a i b j place ws k past) where
  pub passing_ends : length ws ≤ k → (end at : ℕ) → first_in end (octet_fields a i at ws) (octet_fields b j place ws) ≡ None
  unfolding octet_fields first_in
  passing_ends h end at = g.says end at ∙ rw (drop_of_length-le ws h) refl

  module _ (n : ℕ) (is : n ≡ get_or ws k 0) (inside : k < length ws) where
    here : drop k ws ≡ n ∷ drop (suc k) ws
    here = drop-cons ws k 0 inside ∙ ap (λ (x : ℕ). x ∷ drop (suc k) ws) (sym is)

    pub width_fits : past + n ≤ total ws
    width_fits = let e : total (drop k ws) ≡ n + total (drop (suc k) ws) = ap total here in omega (arith, g.left)

    one : (end at : ℕ)
        → first_in end (octet_fields a i at ws) (octet_fields b j place ws)
        ≡ cond (same_octets (part a (i + past) n) (part b (j + past) n))
        (first_in end (octet_fields a (i + past + n) (at + past + n) (drop (suc k) ws)) (octet_fields b (j + past + n) (place + past + n) (drop (suc k) ws)))
        (Some (place + past))
    unfolding octet_fields first_in same_field
    one end at = g.says end at ∙ rw here refl

    pub passing_other : same_octets (part a (i + past) n) (part b (j + past) n) ≡ false → (end at : ℕ)
        → first_in end (octet_fields a i at ws) (octet_fields b j place ws) ≡ Some (place + past)
    passing_other f end at = one end at ∙ rw f refl

    pub passing_on : same_octets (part a (i + past) n) (part b (j + past) n) ≡ true → Passing a i b j place ws (k + 1) (past + n)
    passing_on t =
        record {
          inside = omega arith;
          left = let e : total (drop k ws) ≡ n + total (drop (suc k) ws) = ap total here in rw add-one (omega (arith, g.left));
          says = λ end at. one end at ∙ rw (t, add_assoc, add_assoc, add_assoc, add_assoc, add-one) refl;
        }

pub level_octets : (a : List ℕ) (i at : ℕ) (b : List ℕ) (j place : ℕ) (ws : List ℕ) → Level (octet_fields a i at ws) (octet_fields b j place ws)
unfolding octet_fields
level_octets a i at b j place [] = tt
level_octets a i at b j place (n ∷ ws) = λ _. level_octets a (i + n) (at + n) b (j + n) (place + n) ws

-- ── Fields behind fields ────────────────────────────────────────────────────────────────────────────────────────────

abbrev pub or_else : Option ℕ → Option ℕ → Option ℕ
or_else None o = o
or_else (Some place) o = Some place

pub first_join : (end : ℕ) (xs ys us vs : List Placed) → Level xs ys → first_in end (xs ++ us) (ys ++ vs) ≡ or_else (first_in end xs ys) (first_in end us vs)
unfolding first_in
first_join end [] [] us vs l = refl
first_join end [] (y ∷ ys) us vs l = absurd l
first_join end (x ∷ xs) [] us vs l = absurd l
first_join end (x ∷ xs) (y ∷ ys) us vs l = go (same_field x.field y.field) refl (λ e. first_join end xs ys us vs (l e))
  where
    go : (t : Bool) → same_field x.field y.field ≡ t
        → (same_field x.field y.field ≡ true → first_in end (xs ++ us) (ys ++ vs) ≡ or_else (first_in end xs ys) (first_in end us vs))
        → cond t (first_in end (xs ++ us) (ys ++ vs)) (Some y.place) ≡ or_else (cond t (first_in end xs ys) (Some y.place)) (first_in end us vs)
    go true e f = f e
    go false e f = refl
