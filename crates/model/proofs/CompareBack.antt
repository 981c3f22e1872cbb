-- The other way (02, CR 12): two messages of octets that read, with the same header, and questions and records that are the same up to the case of names,
-- have the same meaning. Assumes nothing.
use Prim.Native.Nat.{ℕ, suc, ◌+◌, ◌-◌, ◌≤◌}
use mathlib.Core.Path.{◌≡◌, refl, sym, ap, ap₂, ◌∙◌}
use mathlib.Core.Bool.{Bool, true, false, cond, ◌&&◌, false≢true}
use mathlib.Core.Logic.{inl, inr}
use mathlib.Core.List.{List, [], ◌∷◌, ◌++◌}
use native.Mathlib.Numerals.{add-one}
use native.Mathlib.Omega.{arith}
use borrow.Author.Tests.{eq-eqb}
use lib.Dec.{eqb, ltb}
use lib.ListN.{length, get_or, take, drop, length-take, length-drop}
use lib.Seq.{drop-cons, drop-drop, take-add, take-take, drop_at, length-take-le}
use Rattle.model.specs.declared.Verdict.{Verdict}
use Rattle.model.specs.Octets.{u16_at, u32_at, part, Reading, stops, reads}
use Rattle.model.specs.Names.{read_plain, same_name}
use Rattle.model.specs.Messages.{Question, Record, Message, read_sections, read_message}
use Rattle.model.specs.Tkey.{tkey_type}
use Rattle.model.specs.Calls.{DONE}
use Rattle.model.specs.Compare.{name, octets, cut, Placed, header_fields, question_form, tkey_end, tkey_middle, tkey_fields, data_fields, record_form, fields_of, same_field, same_fields, SameMeaning, verdict, compared, Each, SameQuestion, SameData, whole, cased, SameRecord, SameContents, Proper, Allowed, AllOctets}
use Rattle.model.proofs.Tests.{both}
use Rattle.model.proofs.NameLaws.{same_refl}
use Rattle.model.proofs.Plain.{plain_part}
use Rattle.model.proofs.CompareLaws.{octets_refl, octets_same, proper_some, accepted, only_accepted}
use Rattle.model.proofs.CompareFields.{u16_same, same_parts}
use Rattle.model.proofs.CompareRead.{passed, ShowsQuestion, ShowsRecord, together, Laid, laid}
use Rattle.model.proofs.CompareMeaning.{first_same, behind, header_same, header_level, same₁, same₂, same_message}

-- ── Fields ──────────────────────────────────────────────────────────────────────────────────────────────────────────

-- octets that are equal
equal : (x y : List ℕ) → x ≡ y → same_field (octets x) (octets y) ≡ true
unfolding same_field
equal x y e = rw e (octets_refl y)

cut_same : (x y : List ℕ) → x ≡ y → same_field (cut x) (cut y) ≡ true
unfolding same_field
cut_same x y e = rw e (octets_refl y)

-- one field more, and no field
more : (x y : Placed) (xs ys : List Placed) → same_field x.field y.field ≡ true → same_fields xs ys ≡ true → same_fields (x ∷ xs) (y ∷ ys) ≡ true
unfolding same_fields
more x y xs ys e r = both (same_field x.field y.field) (same_fields xs ys) e r

no_more_lem : same_fields [] [] ≡ true
unfolding same_fields
no_more_lem = refl

-- fields behind fields
joined : (xs ys us vs : List Placed) → same_fields xs ys ≡ true → same_fields us vs ≡ true → same_fields (xs ++ us) (ys ++ vs) ≡ true
unfolding same_fields
joined [] [] us vs e r = r
joined [] (y ∷ ys) us vs e r = absurd (false≢true e)
joined (x ∷ xs) [] us vs e r = absurd (false≢true e)
joined (x ∷ xs) (y ∷ ys) us vs e r = let t = same_field x.field y.field in go t e (joined xs ys us vs)
  where
    go : (t : Bool) → (t && same_fields xs ys) ≡ true → (same_fields xs ys ≡ true → same_fields us vs ≡ true → same_fields (xs ++ us) (ys ++ vs) ≡ true)
        → (t && same_fields (xs ++ us) (ys ++ vs)) ≡ true
    go true e f = f e r
    go false e f = e

-- ── Numbers ─────────────────────────────────────────────────────────────────────────────────────────────────────────

pub two_octets : (m : List ℕ) (p : ℕ) → p + 2 ≤ length m → part m p 2 ≡ get_or m p 0 ∷ get_or m (p + 1) 0 ∷ []
unfolding part
two_octets m p h = rw (drop-cons m p 0 (omega arith), drop-cons m (suc p) 0 (omega arith), add-one) refl

-- the same number in two octets is the same octets
u16_back : (a b : List ℕ) (p q : ℕ) → AllOctets a → AllOctets b → p + 2 ≤ length a → q + 2 ≤ length b → u16_at a p ≡ u16_at b q → part a p 2 ≡ part b q 2
unfolding u16_at
u16_back a b p q oa ob ha hb e =
    let x₁ = oa (p + 1) in
    let y₁ = ob (q + 1) in
    let h₀ : get_or a p 0 ≡ get_or b q 0 = omega arith in
    let h₁ : get_or a (p + 1) 0 ≡ get_or b (q + 1) 0 = omega arith in
    two_octets a p ha ∙ ap₂ (λ (x y : ℕ). x ∷ y ∷ []) h₀ h₁ ∙ sym (two_octets b q hb)

four_octets : (m : List ℕ) (p : ℕ) → part m p 4 ≡ part m p 2 ++ part m (p + 2) 2
unfolding part
four_octets m p = rw (← drop-drop 2 p m) (take-add 2 2 (drop p m))

u32_back : (a b : List ℕ) (p q : ℕ) → AllOctets a → AllOctets b → p + 4 ≤ length a → q + 4 ≤ length b → u32_at a p ≡ u32_at b q → part a p 4 ≡ part b q 4
unfolding u32_at u16_at
u32_back a b p q oa ob ha hb e =
    let x₁ = oa (p + 1) in
    let x₂ = oa (p + 2) in
    let x₃ = oa (p + 2 + 1) in
    let y₁ = ob (q + 1) in
    let y₂ = ob (q + 2) in
    let y₃ = ob (q + 2 + 1) in
    let hi : u16_at a p ≡ u16_at b q = omega arith in
    let lo : u16_at a (p + 2) ≡ u16_at b (q + 2) = omega arith in
    four_octets a p ∙ ap₂ (λ (x y : List ℕ). x ++ y) (u16_back a b p q oa ob (omega arith) (omega arith) hi) (u16_back a b (p + 2) (q + 2) oa ob (omega arith) (omega arith) lo) ∙ sym (four_octets b q)

-- ── A record's data ─────────────────────────────────────────────────────────────────────────────────────────────────

-- what follows is the same, and so its parts are
module _ (c d : List ℕ) (p : ℕ) (e : drop p c ≡ drop p d) where
  later_rest : (i q : ℕ) → q ≡ p + i → drop q c ≡ drop q d
  later_rest i q h = rw h (sym (drop-drop i p c) ∙ ap (drop i) e ∙ drop-drop i p d)

  later_part : (i q n : ℕ) → q ≡ p + i → same_field (octets (part c q n)) (octets (part d q n)) ≡ true
  unfolding part
  later_part i q n h = equal (part c q n) (part d q n) (ap (take n) (later_rest i q h))

  same_size : p ≤ length c → p ≤ length d → length c ≡ length d
  same_size hc hd = let l : length (drop p c) ≡ length (drop p d) = ap length e in omega (arith, simp length-drop at l)

end_back : (i j : ℕ) (c d : List ℕ) (p n : ℕ) → drop p c ≡ drop p d → length c ≡ length d → same_fields (tkey_end i c p n) (tkey_end j d p n) ≡ true
unfolding tkey_end
end_back i j c d p n e l = rw l (go (ltb (length d) (p + n + 2)))
  where
    go : (t : Bool) → same_fields (cond t (record { place = i + p; field = cut (drop p c) } ∷ []) (record { place = i + p; field = octets (part c p n) } ∷ record { place = i + (p + n); field = octets (part c (p + n) 2) } ∷ record { place = i + (p + n + 2); field = octets (drop (p + n + 2) c) } ∷ []))
        (cond t (record { place = j + p; field = cut (drop p d) } ∷ []) (record { place = j + p; field = octets (part d p n) } ∷ record { place = j + (p + n); field = octets (part d (p + n) 2) } ∷ record { place = j + (p + n + 2); field = octets (drop (p + n + 2) d) } ∷ [])) ≡ true
    go true = more _ _ [] [] (cut_same (drop p c) (drop p d) e) no_more_lem
    go false =
        more _ _ _ _ (later_part c d p e 0 p n (omega arith))
        (more _ _ _ _ (later_part c d p e n (p + n) 2 refl)
        (more _ _ _ _ (equal (drop (p + n + 2) c) (drop (p + n + 2) d) (later_rest c d p e (n + 2) (p + n + 2) (omega arith))) no_more_lem))

-- the two lists of a choice by one test
by_one : (P : List Placed → List Placed → Type 0) (t : Bool) {x y u v : List Placed} → P x u → P y v → P (cond t x y) (cond t u v)
by_one P true a b = a
by_one P false a b = b

middle_back : (i j : ℕ) (c d : List ℕ) (p : ℕ) → drop p c ≡ drop p d → length c ≡ length d → same_fields (tkey_middle i c p) (tkey_middle j d p) ≡ true
unfolding tkey_middle
middle_back i j c d p e l =
    let size = later_part c d p e 12 (p + 12) 2 refl in
    let n : u16_at c (p + 12) ≡ u16_at d (p + 12) = u16_same c d (p + 12) (p + 12) size in
    rw (l, n)
    (by_one (λ (x y : List Placed). same_fields x y ≡ true) (ltb (length d) (p + 14))
    (more _ _ [] [] (cut_same (drop p c) (drop p d) e) no_more_lem)
    (more _ _ _ _ (later_part c d p e 0 p 4 (omega arith))
    (more _ _ _ _ (later_part c d p e 4 (p + 4) 4 refl)
    (more _ _ _ _ (later_part c d p e 8 (p + 8) 2 refl)
    (more _ _ _ _ (later_part c d p e 10 (p + 10) 2 refl)
    (more _ _ _ _ size (end_back i j c d (p + 14) (u16_at d (p + 12)) (later_rest c d p e 14 (p + 14) refl) l)))))))

name_same : (n k : List ℕ) → same_name n k ≡ true → same_field (name n) (name k) ≡ true
unfolding same_field
name_same n k e = e

tkey_self : (i j : ℕ) (c : List ℕ) (r : Reading (List ℕ)) → same_fields (tkey_fields i c r) (tkey_fields j c r) ≡ true
tkey_self i j c (stops x) = more _ _ [] [] (cut_same c c refl) no_more_lem
tkey_self i j c (reads n p) = more _ _ _ _ (name_same n n (same_refl n)) (middle_back i j c c p refl refl)

-- where data is the same up to the algorithm's case, its length is
pub data_size : (type : ℕ) (c d : List ℕ) → SameData type c d → length c ≡ length d
data_size type c d (whole e) = ap length e
data_size type c d (cased t n k p f g s e) = same_size c d p e (plain_part c 0 n p f).1 (plain_part d 0 k p g).1

data_self : (type i j : ℕ) (c : List ℕ) → same_fields (data_fields type i c) (data_fields type j c) ≡ true
unfolding data_fields
data_self type i j c =
    by_one (λ (x y : List Placed). same_fields x y ≡ true) (eqb type tkey_type) (tkey_self i j c (read_plain c 0)) (more _ _ [] [] (equal c c refl) no_more_lem)

data_back : (type i j : ℕ) (c d : List ℕ) → SameData type c d → same_fields (data_fields type i c) (data_fields type j d) ≡ true
unfolding data_fields
data_back type i j c d (whole e) = rw e (data_self type i j d)
data_back type i j c d (cased t n k p f g s e) =
    rw (eq-eqb type tkey_type t, f, g) (more _ _ _ _ (name_same n k s) (middle_back i j c d p e (data_size type c d (cased t n k p f g s e))))

-- ── Questions and records ───────────────────────────────────────────────────────────────────────────────────────────

module _ (a b : List ℕ) (oa : AllOctets a) (ob : AllOctets b) where
  question_back : (q s : Question) (x y : List Placed) → ShowsQuestion a q x → ShowsQuestion b s y → SameQuestion q s → same_fields x y ≡ true
  unfolding question_form
  question_back q s x y f g e =
      let t : u16_at a f.next ≡ u16_at b g.next = sym f.type ∙ e.type ∙ g.type in
      let c : u16_at a (f.next + 2) ≡ u16_at b (g.next + 2) = sym f.class ∙ e.class ∙ g.class in
      let hf = f.fits in
      let hg = g.fits in
      rw (f.is, g.is)
      (more _ _ _ _ (name_same q.name s.name e.name)
      (more _ _ _ _ (equal _ _ (u16_back a b f.next g.next oa ob (omega arith) (omega arith) t))
      (more _ _ [] [] (equal _ _ (u16_back a b (f.next + 2) (g.next + 2) oa ob (omega arith) (omega arith) c)) no_more_lem)))

  -- the data of a record has the length that RDLENGTH says
  sized : (m : List ℕ) (k : ℕ) (r : Record) (x : List Placed) (f : ShowsRecord m k r x) → length r.content ≡ u16_at m (f.next + 8)
  unfolding part
  sized m k r x f = let h = f.fits in ap length f.content ∙ simp (length-take, length-drop) (omega arith)

  record_back : (k : ℕ) (r s : Record) (x y : List Placed) → ShowsRecord a k r x → ShowsRecord b k s y → SameRecord r s → same_fields x y ≡ true
  unfolding record_form
  record_back k r s x y f g e =
      let p = f.next in
      let q = g.next in
      let hf = f.fits in
      let hg = g.fits in
      let t : u16_at a p ≡ u16_at b q = sym f.type ∙ e.type ∙ g.type in
      let c : u16_at a (p + 2) ≡ u16_at b (q + 2) = sym f.class ∙ e.class ∙ g.class in
      let l : u32_at a (p + 4) ≡ u32_at b (q + 4) = sym f.ttl ∙ e.ttl ∙ g.ttl in
      let n : u16_at a (p + 8) ≡ u16_at b (q + 8) = sym (sized a k r x f) ∙ data_size r.type r.content s.content e.content ∙ sized b k s y g in
      let same : SameData (u16_at a p) (part a (p + 10) (u16_at a (p + 8))) (part b (q + 10) (u16_at b (q + 8))) = rw (f.type, f.content, g.content) at e.content in
      let held : same_fields (data_fields (u16_at a p) (p + 10) (part a (p + 10) (u16_at a (p + 8)))) (data_fields (u16_at b q) (q + 10) (part b (q + 10) (u16_at b (q + 8)))) ≡ true =
      rw (sym t) (data_back (u16_at a p) (p + 10) (q + 10) (part a (p + 10) (u16_at a (p + 8))) (part b (q + 10) (u16_at b (q + 8))) same) in
      rw (f.is, g.is)
      (more _ _ _ _ (name_same r.owner s.owner e.owner)
      (more _ _ _ _ (equal _ _ (u16_back a b p q oa ob (omega arith) (omega arith) t))
      (more _ _ _ _ (equal _ _ (u16_back a b (p + 2) (q + 2) oa ob (omega arith) (omega arith) c))
      (more _ _ _ _ (equal _ _ (u32_back a b (p + 4) (q + 4) oa ob (omega arith) (omega arith) l))
      (more _ _ _ _ (equal _ _ (u16_back a b (p + 8) (q + 8) oa ob (omega arith) (omega arith) n)) held)))))

-- ── The header ──────────────────────────────────────────────────────────────────────────────────────────────────────

-- a part of the first k octets
sub : (m : List ℕ) (k : ℕ) → k ≤ length m → (from n : ℕ) → from + n ≤ k → part (part m 0 k) from n ≡ part m from n
unfolding part
sub m k fits from n h =
    let e : k ≡ from + (k - from) = omega arith in
    let s : take k m ≡ take from m ++ take (k - from) (drop from m) = ap (λ (j : ℕ). take j m) e ∙ take-add from (k - from) m in
    let d : drop from (take k m) ≡ take (k - from) (drop from m) = ap (drop from) s ∙ drop_at (take from m) (take (k - from) (drop from m)) from (length-take-le from m (omega arith)) in
    ap (take n) d ∙ take-take n (k - from) (drop from m) (omega arith)

header_back : (a b : List ℕ) → 12 ≤ length a → 12 ≤ length b → part a 0 12 ≡ part b 0 12 → same_fields (header_fields a) (header_fields b) ≡ true
unfolding header_fields
header_back a b ha hb e =
    let same : (from : ℕ) → from + 2 ≤ 12 → same_field (octets (part a from 2)) (octets (part b from 2)) ≡ true =
    λ from h. equal (part a from 2) (part b from 2) (sym (sub a 12 ha from 2 h) ∙ ap (λ (x : List ℕ). part x from 2) e ∙ sub b 12 hb from 2 h) in
    more _ _ _ _ (same 0 (omega arith))
    (more _ _ _ _ (same 2 (omega arith))
    (more _ _ _ _ (same 4 (omega arith)) (more _ _ _ _ (same 6 (omega arith)) (more _ _ _ _ (same 8 (omega arith)) (more _ _ [] [] (same 10 (omega arith)) no_more_lem)))))

two_more : (m : List ℕ) (p k : ℕ) → part m p (2 + k) ≡ part m p 2 ++ part m (p + 2) k
unfolding part
two_more m p k = take-add 2 k (drop p m) ∙ ap (λ (x : List ℕ). take 2 (drop p m) ++ take k x) (drop-drop 2 p m)

two_same : (a b : List ℕ) (p k : ℕ) → same_field (octets (part a p 2)) (octets (part b p 2)) ≡ true → part a (p + 2) k ≡ part b (p + 2) k → part a p (2 + k) ≡ part b p (2 + k)
unfolding same_field
two_same a b p k e r = two_more a p k ∙ ap₂ (λ (x y : List ℕ). x ++ y) (octets_same (part a p 2) (part b p 2) e) r ∙ sym (two_more b p k)

header_whole : (a b : List ℕ) → same_fields (header_fields a) (header_fields b) ≡ true → part a 0 12 ≡ part b 0 12
unfolding header_fields part
header_whole a b e =
    let e₀ = first_same _ _ _ _ e in
    let e₁ = first_same _ _ _ _ e₀.1 in
    let e₂ = first_same _ _ _ _ e₁.1 in
    let e₃ = first_same _ _ _ _ e₂.1 in
    let e₄ = first_same _ _ _ _ e₃.1 in
    let e₅ = first_same _ _ _ _ e₄.1 in
    two_same a b 0 10 e₀.0 (two_same a b 2 8 e₁.0 (two_same a b 4 6 e₂.0 (two_same a b 6 4 e₃.0 (two_same a b 8 2 e₄.0 (two_same a b 10 0 e₅.0 refl)))))

-- ── Two messages ────────────────────────────────────────────────────────────────────────────────────────────────────

module _ {A B : Type 0} (P : A → List Placed → Type 0) (Q : B → List Placed → Type 0) (R : A → B → Type 0) (back : (a : A) (b : B) (x y : List Placed) → P a x → Q b y → R a b → same_fields x y ≡ true) where
  each_back : (as₁ : List A) (xs : List (List Placed)) (bs : List B) (ys : List (List Placed)) → Each P as₁ xs → Each Q bs ys → Each R as₁ bs → same_fields (together xs) (together ys) ≡ true
  each_back [] [] [] [] p q r = no_more_lem
  each_back [] [] [] (y ∷ ys) p q r = absurd q
  each_back [] [] (b ∷ bs) ys p q r = absurd r
  each_back [] (x ∷ xs) bs ys p q r = absurd p
  each_back (a ∷ as₁) [] bs ys p q r = absurd p
  each_back (a ∷ as₁) (x ∷ xs) [] ys p q r = absurd r
  each_back (a ∷ as₁) (x ∷ xs) (b ∷ bs) [] p q r = absurd q
  each_back (a ∷ as₁) (x ∷ xs) (b ∷ bs) (y ∷ ys) p q r =
      joined x y (together xs) (together ys) (back a b x y p.0 q.0 r.0) (each_back as₁ xs bs ys p.1 q.1 r.1)

each_split : {A B : Type 0} (R : A → B → Type 0) (as₁ : List A) (bs : List B) (cs : List A) (ds : List B) → length as₁ ≡ length bs → Each R (as₁ ++ cs) (bs ++ ds)
    → Each R as₁ bs × Each R cs ds
each_split R [] [] cs ds n e = (tt, e)
each_split R [] (b ∷ bs) cs ds n e = absurd (omega arith)
each_split R (a ∷ as₁) [] cs ds n e = absurd (omega arith)
each_split R (a ∷ as₁) (b ∷ bs) cs ds n e = let r = each_split R as₁ bs cs ds (omega arith) e.1 in ((e.0, r.0), r.1)

module _ (a b : List ℕ) (oa : AllOctets a) (ob : AllOctets b) (ha : 12 ≤ length a) (hb : 12 ≤ length b) (q s : Message) (l : Laid a q) (k : Laid b s) where
  contents_back : SameContents a b q s → SameMeaning a b
  unfolding fields_of
  contents_back e =
      let hh = header_back a b ha hb e.header in
      let h = header_same a b hh in
      let rs : Each SameRecord (l.answers ++ (l.authority ++ l.extra)) (k.answers ++ (k.authority ++ k.extra)) = rw (l.records, k.records) at e.records in
      let r₁ = each_split SameRecord l.answers k.answers (l.authority ++ l.extra) (k.authority ++ k.extra) (same₁ a b q s l k h) rs in
      let r₂ = each_split SameRecord l.authority k.authority l.extra k.extra (same₂ a b q s l k h) r₁.1 in
      rw (behind a q l, behind b s k)
      (joined (header_fields a) (header_fields b) _ _ hh
      (joined (together l.asking) (together k.asking) _ _
      (each_back (ShowsQuestion a) (ShowsQuestion b) SameQuestion (question_back a b oa ob) q.questions l.asking s.questions k.asking l.questions k.questions e.questions)
      (joined (together l.answering) (together k.answering) _ _
      (each_back (ShowsRecord a 1) (ShowsRecord b 1) SameRecord (record_back a b oa ob 1) l.answers l.answering k.answers k.answering l.records₁ k.records₁ r₁.0)
      (joined (together l.standing) (together k.standing) _ _
      (each_back (ShowsRecord a 2) (ShowsRecord b 2) SameRecord (record_back a b oa ob 2) l.authority l.standing k.authority k.standing l.records₂ k.records₂ r₂.0)
      (each_back (ShowsRecord a 3) (ShowsRecord b 3) SameRecord (record_back a b oa ob 3) l.extra l.adding k.extra k.adding l.records₃ k.records₃ r₂.1)))))

  contents_on : SameMeaning a b → SameContents a b q s
  unfolding fields_of
  contents_on e =
      let m = same_message a b q s l k e in
      let e₀ = same_parts (header_fields a) (header_fields b) _ _ (header_level a b) e in
      record { header = header_whole a b e₀.0; questions = m.questions; records = m.records }

pub long : (m : List ℕ) (q : Message) (end : ℕ) → read_message m ≡ reads q end → 12 ≤ length m
unfolding read_message
long m q end e = passed (length m) 12 (length m) (read_sections m) q end e

-- "A reply is accepted exactly when it has the meaning of ours: the same header, questions and records in order, names equal without regard to case, owner
-- and question names compressed or not, all else .. octet for octet." Of two proper replies, by what `read_message` gives.
pub accepted_exactly : (ours theirs : List ℕ) (p : Proper ours) (q : Proper theirs) → AllOctets ours → AllOctets theirs
    → (compared ours theirs ≡ verdict DONE 0 → SameContents ours theirs p.message q.message) × (SameContents ours theirs p.message q.message → compared ours theirs ≡ verdict DONE 0)
accepted_exactly ours theirs p q oa ob = (λ e. go (only_accepted ours theirs (ap (λ (v : Verdict). v.number) e)), λ e. accepted ours theirs (inr (q, contents_back ours theirs oa ob ha hb p.message q.message la lb e)))
  where
    la : Laid ours p.message
    la = laid ours p.message p.end p.says

    lb : Laid theirs q.message
    lb = laid theirs q.message q.end q.says

    ha : 12 ≤ length ours
    ha = long ours p.message p.end p.says

    hb : 12 ≤ length theirs
    hb = long theirs q.message q.end q.says

    go : Allowed ours theirs → SameContents ours theirs p.message q.message
    go (inl n) = absurd (proper_some theirs q n.1)
    go (inr m) = contents_on ours theirs oa ob ha hb p.message q.message la lb m.1
