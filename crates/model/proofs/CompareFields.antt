-- The fields of two messages, side by side: as long as they are the same, both have a next field or neither has one, so what differs is a field of both.
-- A difference in number shows at a count. Assumes nothing.
use Prim.Native.Nat.{ℕ, ◌+◌, ◌-◌, ◌<◌}
use mathlib.Core.Path.{◌≡◌, refl, sym, ap, ◌∙◌}
use mathlib.Core.Bool.{Bool, true, false, cond, false≢true}
use Rattle.std.specs.Prelude.{Some}
use mathlib.Core.List.{List, [], ◌∷◌, ◌++◌}
use native.Mathlib.Nat.{add-zero}
use native.Mathlib.Omega.{arith}
use lib.Dec.{eqb, ltb}
use lib.ListN.{length, get_or, take, length-take}
use lib.Seq.{get_or-take, get_or-drop}
use Rattle.model.specs.Octets.{u16_at, part, Reading, stops, reads}
use Rattle.model.specs.Names.{read_plain}
use Rattle.model.specs.Tkey.{tkey_type}
use Rattle.model.specs.Compare.{octets, Placed, question_form, tkey_end, tkey_middle, tkey_fields, data_fields, record_form, same_field, same_fields, first_in, FirstAt}
use Rattle.model.proofs.Tests.{both, left, right}
use Rattle.model.proofs.NameLaws.{same_length}
use Rattle.model.proofs.Plain.{plain_part}
use Rattle.model.proofs.CompareLaws.{octets_same}

-- ── Numbers of octets that are the same ─────────────────────────────────────────────────────────────────────────────

pub octet_at_lem : (m : List ℕ) (at n i : ℕ) → i < n → get_or (part m at n) i 0 ≡ get_or m (at + i) 0
unfolding part
octet_at_lem m at n i h = rw (get_or-take, get_or-drop) refl

pub u16_same : (a b : List ℕ) (p q : ℕ) → same_field (octets (part a p 2)) (octets (part b q 2)) ≡ true → u16_at a p ≡ u16_at b q
unfolding u16_at same_field
u16_same a b p q e =
    let s = octets_same (part a p 2) (part b q 2) e in
    let h₀ : get_or a p 0 ≡ get_or b q 0 = simp add-zero at (sym (octet_at_lem a p 2 0 (omega arith)) ∙ ap (λ (l : List ℕ). get_or l 0 0) s ∙ octet_at_lem b q 2 0 (omega arith)) in
    let h₁ : get_or a (p + 1) 0 ≡ get_or b (q + 1) 0 = sym (octet_at_lem a p 2 1 (omega arith)) ∙ ap (λ (l : List ℕ). get_or l 1 0) s ∙ octet_at_lem b q 2 1 (omega arith) in
    rw (h₀, h₁) refl

-- ── Fields side by side ─────────────────────────────────────────────────────────────────────────────────────────────

-- As long as the fields are the same, both lists go on or both end.
abbrev pub Level : List Placed → List Placed → Type 0
Level [] [] = Unit {0}
Level [] (y ∷ ys) = ⊥
Level (x ∷ xs) [] = ⊥
Level (x ∷ xs) (y ∷ ys) = same_field x.field y.field ≡ true → Level xs ys

-- behind lists that are level, and level where these are the same
pub level_append : (xs ys us vs : List Placed) → Level xs ys → (same_fields xs ys ≡ true → Level us vs) → Level (xs ++ us) (ys ++ vs)
unfolding same_fields
level_append [] [] us vs l f = f refl
level_append [] (y ∷ ys) us vs l f = absurd l
level_append (x ∷ xs) [] us vs l f = absurd l
level_append (x ∷ xs) (y ∷ ys) us vs l f = λ e. level_append xs ys us vs (l e) (λ s. f (both (same_field x.field y.field) (same_fields xs ys) e s))

-- lists that are the same, in two parts
pub same_parts : (xs ys us vs : List Placed) → Level xs ys → same_fields (xs ++ us) (ys ++ vs) ≡ true → (same_fields xs ys ≡ true) × (same_fields us vs ≡ true)
unfolding same_fields
same_parts [] [] us vs l e = (refl, e)
same_parts [] (y ∷ ys) us vs l e = absurd l
same_parts (x ∷ xs) [] us vs l e = absurd l
same_parts (x ∷ xs) (y ∷ ys) us vs l e =
    let t = same_field x.field y.field in
    let h = left t (same_fields (xs ++ us) (ys ++ vs)) e in
    let r = same_parts xs ys us vs (l h) (right t (same_fields (xs ++ us) (ys ++ vs)) e) in
    (both t (same_fields xs ys) h r.0, r.1)

-- the same one field earlier
first_later : (place : ℕ) (x y : Placed) (xs ys : List Placed) → same_field x.field y.field ≡ true → FirstAt place xs ys → FirstAt place (x ∷ xs) (y ∷ ys)
unfolding same_fields
first_later place x y xs ys e f =
    record {
      before = x ∷ f.before;
      before_theirs = y ∷ f.before_theirs;
      x = f.x;
      y = f.y;
      behind = f.behind;
      behind_theirs = f.behind_theirs;
      ours = ap (λ (l : List Placed). x ∷ l) f.ours;
      theirs = ap (λ (l : List Placed). y ∷ l) f.theirs;
      same = both (same_field x.field y.field) (same_fields f.before f.before_theirs) e f.same;
      other = f.other;
      is = f.is;
    }

-- Of lists that are level, the place found is that of the first field that differs, and not the end.
pub differs_at : (end : ℕ) (xs ys : List Placed) (place : ℕ) → Level xs ys → first_in end xs ys ≡ Some place → FirstAt place xs ys
unfolding first_in same_fields
differs_at end [] [] place l e = let z : ◌≡◌ {A = ℕ} 0 1 = cc in absurd (omega arith)
differs_at end [] (y ∷ ys) place l e = absurd l
differs_at end (x ∷ xs) [] place l e = absurd l
differs_at end (x ∷ xs) (y ∷ ys) place l e = go (same_field x.field y.field) refl (λ s. differs_at end xs ys place (l s)) e
  where
    go : (t : Bool) → same_field x.field y.field ≡ t → (same_field x.field y.field ≡ true → first_in end xs ys ≡ Some place → FirstAt place xs ys)
        → cond t (first_in end xs ys) (Some y.place) ≡ Some place → FirstAt place (x ∷ xs) (y ∷ ys)
    go true s f e = first_later place x y xs ys s (f s e)
    go false s f e = record { before = []; before_theirs = []; x = x; y = y; behind = xs; behind_theirs = ys; ours = refl; theirs = refl; same = refl; other = s; is = cc }

-- ── A TKEY's data ───────────────────────────────────────────────────────────────────────────────────────────────────

-- two tests, each by its own way
pub tests : (P : List Placed → List Placed → Type 0) (s t : Bool) {x y u v : List Placed} → P x u → P x v → P y u → P y v → P (cond s x y) (cond t u v)
tests P true true a b c d = a
tests P true false a b c d = b
tests P false true a b c d = c
tests P false false a b c d = d

pub level_end : (i j : ℕ) (c d : List ℕ) (p n : ℕ) → Level (tkey_end i c p n) (tkey_end j d p n)
unfolding tkey_end same_field
level_end i j c d p n =
    tests Level (ltb (length c) (p + n + 2)) (ltb (length d) (p + n + 2)) (λ _. tt) (λ e. absurd (false≢true e)) (λ e. absurd (false≢true e)) (λ _ _ _. tt)

pub level_middle : (i j : ℕ) (c d : List ℕ) (p q : ℕ) → p ≡ q → Level (tkey_middle i c p) (tkey_middle j d q)
unfolding tkey_middle same_field
level_middle i j c d p q e =
    rw e
    (tests Level (ltb (length c) (q + 14)) (ltb (length d) (q + 14)) (λ _. tt) (λ e. absurd (false≢true e)) (λ e. absurd (false≢true e))
    (λ _ _ _ _ s. rw (u16_same c d (q + 12) (q + 12) s) (level_end i j c d (q + 14) (u16_at d (q + 12)))))

-- a name in data ends where its octets do
pub plain_next : (d : List ℕ) (n : List ℕ) (next : ℕ) → read_plain d 0 ≡ reads n next → next ≡ length n
unfolding part
plain_next d n next e =
    let p = plain_part d 0 n next e in
    let l : length n ≡ length (take (next - 0) d) = ap length p.2 in
    omega (arith, simp length-take at l)

pub level_tkey : (i j : ℕ) (c d : List ℕ) (r s : Reading (List ℕ)) → read_plain c 0 ≡ r → read_plain d 0 ≡ s → Level (tkey_fields i c r) (tkey_fields j d s)
unfolding same_field
level_tkey i j c d (stops x) (stops y) e f = λ _. tt
level_tkey i j c d (stops x) (reads n q) e f = λ z. absurd (false≢true z)
level_tkey i j c d (reads n p) (stops y) e f = λ z. absurd (false≢true z)
level_tkey i j c d (reads n p) (reads k q) e f = λ z. level_middle i j c d p q (plain_next c n p e ∙ same_length n k z ∙ sym (plain_next d k q f))

pub level_data : (type i j : ℕ) (c d : List ℕ) → Level (data_fields type i c) (data_fields type j d)
unfolding data_fields
level_data type i j c d = go (eqb type tkey_type)
  where
    go : (b : Bool) → Level (cond b (tkey_fields i c (read_plain c 0)) (record { place = i; field = octets c } ∷ [])) (cond b (tkey_fields j d (read_plain d 0)) (record { place = j; field = octets d } ∷ []))
    go true = level_tkey i j c d (read_plain c 0) (read_plain d 0) refl refl
    go false = λ _. tt

-- ── Questions, records, and all of them ─────────────────────────────────────────────────────────────────────────────

pub level_question : (a b : List ℕ) (at to : ℕ) (n k : List ℕ) (p q : ℕ) → Level (question_form a at n p) (question_form b to k q)
unfolding question_form
level_question a b at to n k p q = λ _ _ _. tt

pub level_record : (a b : List ℕ) (at to : ℕ) (n k : List ℕ) (p q : ℕ) → Level (record_form a at n p) (record_form b to k q)
unfolding record_form
level_record a b at to n k p q =
    λ _ s _ _ _. rw (u16_same a b p q s) (level_data (u16_at b q) (p + 10) (q + 10) (part a (p + 10) (u16_at a (p + 8))) (part b (q + 10) (u16_at b (q + 8))))
