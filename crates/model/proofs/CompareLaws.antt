-- Laws of judging another server's replies (02, CR 12): the same meaning is an equivalence, and a reply is accepted exactly when it has the meaning of
-- ours. Assumes nothing.
use Prim.Native.Nat.{ℕ}
use mathlib.Core.Path.{◌≡◌, refl, sym, ap, ap₂, ◌∙◌}
use mathlib.Core.Bool.{Bool, true, false, cond, ◌&&◌, false≢true}
use Rattle.std.specs.Prelude.{Option, None, Some}
use mathlib.Core.Logic.{inl, inr}
use mathlib.Core.List.{List, [], ◌∷◌}
use native.Mathlib.Omega.{arith}
use lib.Dec.{eqb}
use lib.ListN.{length}
use borrow.Author.Tests.{eqb-true, eq-eqb}
use Rattle.model.specs.declared.Verdict.{Verdict}
use Rattle.model.specs.Octets.{part, Reading, stops, reads}
use Rattle.model.specs.Messages.{Message, read_message}
use Rattle.model.specs.Calls.{DIFFERS, DONE, SIZE, FORMAT, size_ok}
use Rattle.model.specs.Compare.{Field, name, octets, cut, Placed, header_fields, fields_of, same_octets, same_field, same_fields, SameMeaning, first_in, first_difference, verdict, by_difference, by_reading, by_size, compared, Proper, Allowed}
use Rattle.model.proofs.Tests.{both, left, right}
use Rattle.model.proofs.NameLaws.{same_refl, same_sym, same_trans}

-- ── Octets and fields that are the same ─────────────────────────────────────────────────────────────────────────────

pub octets_refl : (x : List ℕ) → same_octets x x ≡ true
unfolding same_octets
octets_refl [] = refl
octets_refl (a ∷ x) = both (eqb a a) (same_octets x x) (eq-eqb a a refl) (octets_refl x)

pub octets_same : (x y : List ℕ) → same_octets x y ≡ true → x ≡ y
unfolding same_octets
octets_same [] [] e = refl
octets_same [] (b ∷ y) e = absurd (false≢true e)
octets_same (a ∷ x) [] e = absurd (false≢true e)
octets_same (a ∷ x) (b ∷ y) e =
    ap₂ (λ (c : ℕ) (l : List ℕ). c ∷ l) (eqb-true a b (left (eqb a b) (same_octets x y) e)) (octets_same x y (right (eqb a b) (same_octets x y) e))

octets_sym : (x y : List ℕ) → same_octets x y ≡ true → same_octets y x ≡ true
octets_sym x y e = rw (octets_same x y e) (octets_refl y)

octets_trans : (x y z : List ℕ) → same_octets x y ≡ true → same_octets y z ≡ true → same_octets x z ≡ true
octets_trans x y z e f = rw (octets_same x y e) f

field_refl : (f : Field) → same_field f f ≡ true
unfolding same_field
field_refl (name n) = same_refl n
field_refl (octets x) = octets_refl x
field_refl (cut x) = octets_refl x

field_sym : (f g : Field) → same_field f g ≡ true → same_field g f ≡ true
unfolding same_field
field_sym (name n) (name k) e = same_sym k n ∙ e
field_sym (name n) (octets x) e = absurd (false≢true e)
field_sym (name n) (cut x) e = absurd (false≢true e)
field_sym (octets x) (name n) e = absurd (false≢true e)
field_sym (octets x) (octets y) e = octets_sym x y e
field_sym (octets x) (cut y) e = absurd (false≢true e)
field_sym (cut x) (name n) e = absurd (false≢true e)
field_sym (cut x) (octets y) e = absurd (false≢true e)
field_sym (cut x) (cut y) e = octets_sym x y e

field_trans : (f g h : Field) → same_field f g ≡ true → same_field g h ≡ true → same_field f h ≡ true
unfolding same_field
field_trans (name n) (name k) (name l) e d = same_trans n k l e d
field_trans (name n) (name k) (octets x) e d = d
field_trans (name n) (name k) (cut x) e d = d
field_trans (name n) (octets x) h e d = absurd (false≢true e)
field_trans (name n) (cut x) h e d = absurd (false≢true e)
field_trans (octets x) (name n) h e d = absurd (false≢true e)
field_trans (octets x) (octets y) (name n) e d = d
field_trans (octets x) (octets y) (octets z) e d = octets_trans x y z e d
field_trans (octets x) (octets y) (cut z) e d = d
field_trans (octets x) (cut y) h e d = absurd (false≢true e)
field_trans (cut x) (name n) h e d = absurd (false≢true e)
field_trans (cut x) (octets y) h e d = absurd (false≢true e)
field_trans (cut x) (cut y) (name n) e d = d
field_trans (cut x) (cut y) (octets z) e d = d
field_trans (cut x) (cut y) (cut z) e d = octets_trans x y z e d

fields_refl : (x : List Placed) → same_fields x x ≡ true
unfolding same_fields
fields_refl [] = refl
fields_refl (a ∷ x) = both (same_field a.field a.field) (same_fields x x) (field_refl a.field) (fields_refl x)

fields_sym : (x y : List Placed) → same_fields x y ≡ true → same_fields y x ≡ true
unfolding same_fields
fields_sym [] [] e = refl
fields_sym [] (b ∷ y) e = absurd (false≢true e)
fields_sym (a ∷ x) [] e = absurd (false≢true e)
fields_sym (a ∷ x) (b ∷ y) e =
    let t = same_field a.field b.field in
    both (same_field b.field a.field) (same_fields y x) (field_sym a.field b.field (left t (same_fields x y) e)) (fields_sym x y (right t (same_fields x y) e))

fields_trans : (x y z : List Placed) → same_fields x y ≡ true → same_fields y z ≡ true → same_fields x z ≡ true
unfolding same_fields
fields_trans [] [] z e d = d
fields_trans [] (b ∷ y) z e d = absurd (false≢true e)
fields_trans (a ∷ x) [] z e d = absurd (false≢true e)
fields_trans (a ∷ x) (b ∷ y) [] e d = absurd (false≢true d)
fields_trans (a ∷ x) (b ∷ y) (c ∷ z) e d =
    let t = same_field a.field b.field in
    let u = same_field b.field c.field in
    both (same_field a.field c.field) (same_fields x z)
    (field_trans a.field b.field c.field (left t (same_fields x y) e) (left u (same_fields y z) d))
    (fields_trans x y z (right t (same_fields x y) e) (right u (same_fields y z) d))

-- ── The same meaning is an equivalence ──────────────────────────────────────────────────────────────────────────────

pub meaning_refl : (a : List ℕ) → SameMeaning a a
meaning_refl a = fields_refl (fields_of a)

pub meaning_sym : (a b : List ℕ) → SameMeaning a b → SameMeaning b a
meaning_sym a b e = fields_sym (fields_of a) (fields_of b) e

pub meaning_trans : (a b c : List ℕ) → SameMeaning a b → SameMeaning b c → SameMeaning a c
meaning_trans a b c e d = fields_trans (fields_of a) (fields_of b) (fields_of c) e d

-- ── No field differs exactly where all are the same ─────────────────────────────────────────────────────────────────

abbrev is_none : {A : Type 0} → Option A → Bool
is_none None = true
is_none (Some a) = false

pub none_differs : (end : ℕ) (x y : List Placed) → same_fields x y ≡ true → first_in end x y ≡ None
unfolding same_fields first_in
none_differs end [] [] e = refl
none_differs end [] (b ∷ y) e = absurd (false≢true e)
none_differs end (a ∷ x) [] e = absurd (false≢true e)
none_differs end (a ∷ x) (b ∷ y) e =
    let t = same_field a.field b.field in
    rw (left t (same_fields x y) e) (none_differs end x y (right t (same_fields x y) e))

pub all_same : (end : ℕ) (x y : List Placed) → first_in end x y ≡ None → same_fields x y ≡ true
unfolding same_fields first_in
all_same end [] [] e = refl
all_same end [] (b ∷ y) e = absurd (false≢true (ap is_none e))
all_same end (a ∷ x) [] e = absurd (false≢true (ap is_none e))
all_same end (a ∷ x) (b ∷ y) e = go (same_field a.field b.field) (all_same end x y) e
  where
    go : (t : Bool) → (first_in end x y ≡ None → same_fields x y ≡ true) → cond t (first_in end x y) (Some b.place) ≡ None → (t && same_fields x y) ≡ true
    go true f e = f e
    go false f e = absurd (false≢true (ap is_none e))

-- ── Accepted ────────────────────────────────────────────────────────────────────────────────────────────────────────

-- A proper reply is not empty.
pub proper_some : (r : List ℕ) → Proper r → ¬ (r ≡ [])
unfolding size_ok
proper_some [] p e = false≢true p.size
proper_some (x ∷ r) p e = let z : ◌≡◌ {A = ℕ} 0 1 = cc in omega arith

differs_not : (o : Option ℕ) → (by_difference o).number ≡ DONE → o ≡ None
unfolding DIFFERS DONE
differs_not None e = refl
differs_not (Some place) e = absurd (omega arith)

proper_accepted : (ours theirs : List ℕ) → Proper theirs → SameMeaning ours theirs → by_size ours theirs ≡ verdict DONE 0
unfolding by_size first_difference
proper_accepted ours theirs p e = rw (p.size, p.says, none_differs (length theirs) (fields_of ours) (fields_of theirs) e) refl

accepted_proper : (ours theirs : List ℕ) → (by_size ours theirs).number ≡ DONE → Proper theirs × SameMeaning ours theirs
unfolding by_size first_difference SIZE FORMAT DONE
accepted_proper ours theirs e = sized (size_ok theirs) refl e
  where
    reading : size_ok theirs ≡ true → (r : Reading Message) → read_message theirs ≡ r → (by_reading ours theirs r).number ≡ DONE → Proper theirs × SameMeaning ours theirs
    reading s (stops place) i e = absurd (omega arith)
    reading s (reads m next) i e =
        (record { size = s; message = m; end = next; says = i }, all_same (length theirs) (fields_of ours) (fields_of theirs) (differs_not (first_difference ours theirs) e))

    sized : (t : Bool) → size_ok theirs ≡ t → (cond t (by_reading ours theirs (read_message theirs)) (verdict SIZE 0)).number ≡ DONE → Proper theirs × SameMeaning ours theirs
    sized true s e = reading s (read_message theirs) refl e
    sized false s e = absurd (omega arith)

-- "A reply is accepted exactly when it has the meaning of ours."
pub accepted : (ours theirs : List ℕ) → Allowed ours theirs → compared ours theirs ≡ verdict DONE 0
unfolding compared fields_of header_fields same_fields same_field same_octets part
accepted [] [] a = refl
accepted [] (y ∷ theirs) (inl e) = let z : ◌≡◌ {A = ℕ} 0 1 = cc in absurd (omega arith)
accepted [] (y ∷ theirs) (inr p) = absurd (false≢true p.1)
accepted (x ∷ ours) [] (inl e) = let z : ◌≡◌ {A = ℕ} 0 1 = cc in absurd (omega arith)
accepted (x ∷ ours) [] (inr p) = absurd (false≢true p.1)
accepted (x ∷ ours) (y ∷ theirs) (inl e) = let z : ◌≡◌ {A = ℕ} 0 1 = cc in absurd (omega arith)
accepted (x ∷ ours) (y ∷ theirs) (inr p) = proper_accepted (x ∷ ours) (y ∷ theirs) p.0 p.1

pub only_accepted : (ours theirs : List ℕ) → (compared ours theirs).number ≡ DONE → Allowed ours theirs
unfolding compared DIFFERS DONE
only_accepted [] [] e = inl (refl, refl)
only_accepted [] (y ∷ theirs) e = absurd (omega arith)
only_accepted (x ∷ ours) [] e = absurd (omega arith)
only_accepted (x ∷ ours) (y ∷ theirs) e = inr (accepted_proper (x ∷ ours) (y ∷ theirs) e)

-- Our own reply is accepted.
pub own_accepted : (r : List ℕ) → Proper r → compared r r ≡ verdict DONE 0
own_accepted r p = accepted r r (inr (p, meaning_refl r))

done_not : ¬ (DONE ≡ DIFFERS)
unfolding DIFFERS DONE
done_not e = omega arith

-- Of two proper replies the fields decide.
decided : (ours theirs : List ℕ) → Proper ours → Proper theirs → compared ours theirs ≡ by_difference (first_difference ours theirs)
unfolding compared by_size
decided [] theirs p q = absurd (proper_some [] p refl)
decided (x ∷ ours) [] p q = absurd (proper_some [] q refl)
decided (x ∷ ours) (y ∷ theirs) p q = rw (q.size, q.says) refl

pub by_fields : (ours theirs : List ℕ) → Proper ours → Proper theirs → (place : ℕ) → compared ours theirs ≡ verdict DIFFERS place → first_difference ours theirs ≡ Some place
by_fields ours theirs p q place e = go (first_difference ours theirs) (sym (decided ours theirs p q) ∙ e)
  where
    go : (o : Option ℕ) → by_difference o ≡ verdict DIFFERS place → o ≡ Some place
    go None e = absurd (done_not (ap (λ (v : Verdict). v.number) e))
    go (Some at) e = ap Some (ap (λ (v : Verdict). v.place) e)
