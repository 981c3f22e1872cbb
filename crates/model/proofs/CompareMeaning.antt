-- Two messages that read (02, CR 12): a difference in the number of fields shows at a count first, and where the meanings are equal a reader of messages
-- sees the same, up to the case of names. Assumes nothing.
use Prim.Native.Nat.{ℕ, ◌+◌, ◌/◌, ◌%◌, ◌<◌}
use mathlib.Core.Path.{◌≡◌, refl, sym, ap, ap₂, ◌∙◌}
use mathlib.Core.Bool.{Bool, true, false, cond, false≢true}
use mathlib.Core.Logic.{inl, inr}
use mathlib.Core.List.{List, [], ◌∷◌, ◌++◌}
use native.Mathlib.Nat.{add-zero}
use native.Mathlib.Omega.{arith}
use lib.Dec.{eqb, ltb, leb}
use lib.ListN.{length, get_or, take, drop, take-append-drop}
use lib.Seq.{drop-drop}
use borrow.Author.Tests.{eqb-true}
use Rattle.model.specs.Octets.{u16_at, u32_at, part, Reading, stops, reads}
use Rattle.model.specs.Names.{read_plain, same_name}
use Rattle.model.specs.Messages.{Question, Record, Message, response_of, opcode_of, desired_of, message_of}
use Rattle.model.specs.Tkey.{tkey_type}
use Rattle.model.specs.Calls.{DIFFERS, DONE}
use Rattle.model.specs.Compare.{octets, Placed, header_fields, question_form, tkey_end, tkey_middle, tkey_fields, data_fields, record_form, question_fields, fields_from, records_fields, fields_of, same_octets, same_field, same_fields, SameMeaning, first_difference, verdict, FirstAt, compared, Each, SameQuestion, SameData, whole, cased, SameRecord, SameMessage, Proper, Allowed}
use Rattle.model.proofs.Tests.{left, right}
use Rattle.model.proofs.NameLaws.{same_length}
use Rattle.model.proofs.CompareLaws.{octets_same, proper_some, by_fields, only_accepted}
use Rattle.model.proofs.CompareFields.{octet_at_lem, u16_same, Level, tests, level_append, same_parts, differs_at, level_question, level_record, plain_next}
use Rattle.model.proofs.CompareRead.{ShowsQuestion, ShowsRecord, together, together_append, Laid, laid}

-- ── Lists of things, each with its fields ───────────────────────────────────────────────────────────────────────────

module _ {A B : Type 0} (P : A → List Placed → Type 0) (Q : B → List Placed → Type 0) (level : (a : A) (b : B) (x y : List Placed) → P a x → Q b y → Level x y) where
  pub level_each : (as₁ : List A) (xs : List (List Placed)) (bs : List B) (ys : List (List Placed)) → Each P as₁ xs → Each Q bs ys → length as₁ ≡ length bs → Level (together xs) (together ys)
  level_each [] [] [] [] p q n = tt
  level_each [] [] [] (y ∷ ys) p q n = absurd q
  level_each [] [] (b ∷ bs) ys p q n = absurd (omega arith)
  level_each [] (x ∷ xs) bs ys p q n = absurd p
  level_each (a ∷ as₁) [] bs ys p q n = absurd p
  level_each (a ∷ as₁) (x ∷ xs) [] ys p q n = absurd (omega arith)
  level_each (a ∷ as₁) (x ∷ xs) (b ∷ bs) [] p q n = absurd q
  level_each (a ∷ as₁) (x ∷ xs) (b ∷ bs) (y ∷ ys) p q n =
      level_append x y (together xs) (together ys) (level a b x y p.0 q.0) (λ _. level_each as₁ xs bs ys p.1 q.1 (omega arith))

  module _ (R : A → B → Type 0) (same : (a : A) (b : B) (x y : List Placed) → P a x → Q b y → same_fields x y ≡ true → R a b) where
    pub same_each : (as₁ : List A) (xs : List (List Placed)) (bs : List B) (ys : List (List Placed)) → Each P as₁ xs → Each Q bs ys → length as₁ ≡ length bs
        → same_fields (together xs) (together ys) ≡ true → Each R as₁ bs
    same_each [] [] [] ys p q n e = tt
    same_each [] [] (b ∷ bs) ys p q n e = absurd (omega arith)
    same_each [] (x ∷ xs) bs ys p q n e = absurd p
    same_each (a ∷ as₁) [] bs ys p q n e = absurd p
    same_each (a ∷ as₁) (x ∷ xs) [] ys p q n e = absurd (omega arith)
    same_each (a ∷ as₁) (x ∷ xs) (b ∷ bs) [] p q n e = absurd q
    same_each (a ∷ as₁) (x ∷ xs) (b ∷ bs) (y ∷ ys) p q n e =
        let s = same_parts x y (together xs) (together ys) (level a b x y p.0 q.0) e in
        (same a b x y p.0 q.0 s.0, same_each as₁ xs bs ys p.1 q.1 (omega arith) s.1)

each_append : {A B : Type 0} (R : A → B → Type 0) (as₁ : List A) (bs : List B) (cs : List A) (ds : List B) → Each R as₁ bs → Each R cs ds → Each R (as₁ ++ cs) (bs ++ ds)
each_append R [] [] cs ds p q = q
each_append R [] (b ∷ bs) cs ds p q = absurd p
each_append R (a ∷ as₁) [] cs ds p q = absurd p
each_append R (a ∷ as₁) (b ∷ bs) cs ds p q = (p.0, each_append R as₁ bs cs ds p.1 q)

-- ── One question, one record ────────────────────────────────────────────────────────────────────────────────────────

u32_same : (a b : List ℕ) (p q : ℕ) → same_field (octets (part a p 4)) (octets (part b q 4)) ≡ true → u32_at a p ≡ u32_at b q
unfolding u32_at u16_at same_field
u32_same a b p q e =
    let s = octets_same (part a p 4) (part b q 4) e in
    let at : (i : ℕ) → i < 4 → get_or a (p + i) 0 ≡ get_or b (q + i) 0 = λ i h. sym (octet_at_lem a p 4 i h) ∙ ap (λ (l : List ℕ). get_or l i 0) s ∙ octet_at_lem b q 4 i h in
    let h₀ : get_or a p 0 ≡ get_or b q 0 = simp add-zero at (at 0 (omega arith)) in
    let x₁ : p + 2 + 1 ≡ p + 3 = omega arith in
    let y₁ : q + 2 + 1 ≡ q + 3 = omega arith in
    rw (x₁, y₁, h₀, at 1 (omega arith), at 2 (omega arith), at 3 (omega arith)) refl

question_level : (a b : List ℕ) (q s : Question) (x y : List Placed) → ShowsQuestion a q x → ShowsQuestion b s y → Level x y
question_level a b q s x y f g = rw (f.is, g.is) (level_question a b f.at g.at q.name s.name f.next g.next)

record_level : (a b : List ℕ) (k : ℕ) (r s : Record) (x y : List Placed) → ShowsRecord a k r x → ShowsRecord b k s y → Level x y
record_level a b k r s x y f g = rw (f.is, g.is) (level_record a b f.at g.at r.owner s.owner f.next g.next)

-- the first of some fields, and the others
pub first_same : (x y : Placed) (xs ys : List Placed) → same_fields (x ∷ xs) (y ∷ ys) ≡ true → (same_field x.field y.field ≡ true) × (same_fields xs ys ≡ true)
unfolding same_fields
first_same x y xs ys e = let t = same_field x.field y.field in (left t (same_fields xs ys) e, right t (same_fields xs ys) e)

question_same : (a b : List ℕ) (q s : Question) (x y : List Placed) → ShowsQuestion a q x → ShowsQuestion b s y → same_fields x y ≡ true → SameQuestion q s
unfolding question_form same_field
question_same a b q s x y f g e =
    let e₀ = first_same _ _ _ _ (rw (f.is, g.is) at e) in
    let e₁ = first_same _ _ _ _ e₀.1 in
    let e₂ = first_same _ _ _ _ e₁.1 in
    record {
      name = e₀.0;
      type = f.type ∙ u16_same a b f.next g.next e₁.0 ∙ sym g.type;
      class = f.class ∙ u16_same a b (f.next + 2) (g.next + 2) e₂.0 ∙ sym g.class;
    }

-- ── A record's data ─────────────────────────────────────────────────────────────────────────────────────────────────

-- octets that are the same, and then the same rest
glued : (c d : List ℕ) (from n next : ℕ) → next ≡ from + n → same_field (octets (part c from n)) (octets (part d from n)) ≡ true → drop next c ≡ drop next d → drop from c ≡ drop from d
unfolding part same_field
glued c d from n next i e r =
    let h : take n (drop from c) ≡ take n (drop from d) = octets_same (part c from n) (part d from n) e in
    let t : drop n (drop from c) ≡ drop n (drop from d) = drop-drop n from c ∙ ap (λ (k : ℕ). drop k c) (sym i) ∙ r ∙ ap (λ (k : ℕ). drop k d) i ∙ sym (drop-drop n from d) in
    sym (take-append-drop n (drop from c)) ∙ ap₂ (λ (x y : List ℕ). x ++ y) h t ∙ take-append-drop n (drop from d)

end_same : (i j : ℕ) (c d : List ℕ) (p n : ℕ) → same_fields (tkey_end i c p n) (tkey_end j d p n) ≡ true → drop p c ≡ drop p d
unfolding tkey_end same_fields same_field
end_same i j c d p n e =
    tests (λ (x y : List Placed). same_fields x y ≡ true → drop p c ≡ drop p d) (ltb (length c) (p + n + 2)) (ltb (length d) (p + n + 2))
    (λ e. octets_same (drop p c) (drop p d) (left (same_octets (drop p c) (drop p d)) true e))
    (λ e. absurd (false≢true e))
    (λ e. absurd (false≢true e))
    (λ e. let e₁ = right (same_octets (part c p n) (part d p n)) _ e in
    let e₂ = right (same_octets (part c (p + n) 2) (part d (p + n) 2)) _ e₁ in
    let r = octets_same (drop (p + n + 2) c) (drop (p + n + 2) d) (left (same_octets (drop (p + n + 2) c) (drop (p + n + 2) d)) true e₂) in
    glued c d p n (p + n) refl (left (same_octets (part c p n) (part d p n)) _ e) (glued c d (p + n) 2 (p + n + 2) refl (left (same_octets (part c (p + n) 2) (part d (p + n) 2)) _ e₁) r))
    e

middle_same : (i j : ℕ) (c d : List ℕ) (p : ℕ) → same_fields (tkey_middle i c p) (tkey_middle j d p) ≡ true → drop p c ≡ drop p d
unfolding tkey_middle same_fields same_field
middle_same i j c d p e =
    tests (λ (x y : List Placed). same_fields x y ≡ true → drop p c ≡ drop p d) (ltb (length c) (p + 14)) (ltb (length d) (p + 14))
    (λ e. octets_same (drop p c) (drop p d) (left (same_octets (drop p c) (drop p d)) true e))
    (λ e. absurd (false≢true e))
    (λ e. absurd (false≢true e))
    (λ e. let t₀ = same_octets (part c p 4) (part d p 4) in
    let t₁ = same_octets (part c (p + 4) 4) (part d (p + 4) 4) in
    let t₂ = same_octets (part c (p + 8) 2) (part d (p + 8) 2) in
    let t₃ = same_octets (part c (p + 10) 2) (part d (p + 10) 2) in
    let t₄ = same_octets (part c (p + 12) 2) (part d (p + 12) 2) in
    let e₁ = right t₀ _ e in
    let e₂ = right t₁ _ e₁ in
    let e₃ = right t₂ _ e₂ in
    let e₄ = right t₃ _ e₃ in
    let s = left t₄ _ e₄ in
    let r = end_same i j c d (p + 14) (u16_at d (p + 12)) (rw (u16_same c d (p + 12) (p + 12) s) at (right t₄ _ e₄)) in
    glued c d p 4 (p + 4) refl (left t₀ _ e)
    (glued c d (p + 4) 4 (p + 8) (omega arith) (left t₁ _ e₁)
    (glued c d (p + 8) 2 (p + 10) (omega arith) (left t₂ _ e₂)
    (glued c d (p + 10) 2 (p + 12) (omega arith) (left t₃ _ e₃)
    (glued c d (p + 12) 2 (p + 14) (omega arith) s r)))))
    e

cased_by : (type i j : ℕ) (c d n k : List ℕ) (p q : ℕ) → type ≡ tkey_type → p ≡ q → read_plain c 0 ≡ reads n p → read_plain d 0 ≡ reads k q → same_name n k ≡ true
    → same_fields (tkey_middle i c p) (tkey_middle j d q) ≡ true → SameData type c d
cased_by type i j c d n k p q t pq f g same rest = cased t n k p f (g ∙ ap (reads k) (sym pq)) same (middle_same i j c d p (rw (sym pq) at rest))

tkey_same : (type i j : ℕ) (c d : List ℕ) (r s : Reading (List ℕ)) → type ≡ tkey_type → read_plain c 0 ≡ r → read_plain d 0 ≡ s
    → same_fields (tkey_fields i c r) (tkey_fields j d s) ≡ true → SameData type c d
unfolding same_fields same_field
tkey_same type i j c d (stops x) (stops y) t f g e = whole (octets_same c d (left (same_octets c d) true e))
tkey_same type i j c d (stops x) (reads k q) t f g e = absurd (false≢true e)
tkey_same type i j c d (reads n p) (stops y) t f g e = absurd (false≢true e)
tkey_same type i j c d (reads n p) (reads k q) t f g e =
    let s = left (same_name n k) _ e in
    cased_by type i j c d n k p q t (plain_next c n p f ∙ same_length n k s ∙ sym (plain_next d k q g)) f g s (right (same_name n k) _ e)

data_same : (type i j : ℕ) (c d : List ℕ) → same_fields (data_fields type i c) (data_fields type j d) ≡ true → SameData type c d
unfolding data_fields same_fields same_field
data_same type i j c d e = go (eqb type tkey_type) refl e
  where
    go : (b : Bool) → eqb type tkey_type ≡ b
        → same_fields (cond b (tkey_fields i c (read_plain c 0)) (record { place = i; field = octets c } ∷ [])) (cond b (tkey_fields j d (read_plain d 0)) (record { place = j; field = octets d } ∷ [])) ≡ true
        → SameData type c d
    go true t e = tkey_same type i j c d (read_plain c 0) (read_plain d 0) (eqb-true type tkey_type t) refl refl e
    go false t e = whole (octets_same c d (left (same_octets c d) true e))

record_same : (a b : List ℕ) (k : ℕ) (r s : Record) (x y : List Placed) → ShowsRecord a k r x → ShowsRecord b k s y → same_fields x y ≡ true → SameRecord r s
unfolding record_form same_field
record_same a b k r s x y f g e =
    let p = f.next in
    let q = g.next in
    let e₀ = first_same _ _ _ _ (rw (f.is, g.is) at e) in
    let e₁ = first_same _ _ _ _ e₀.1 in
    let e₂ = first_same _ _ _ _ e₁.1 in
    let e₃ = first_same _ _ _ _ e₂.1 in
    let e₄ = first_same _ _ _ _ e₃.1 in
    let t : u16_at a p ≡ u16_at b q = u16_same a b p q e₁.0 in
    let same = data_same (u16_at b q) (p + 10) (q + 10) (part a (p + 10) (u16_at a (p + 8))) (part b (q + 10) (u16_at b (q + 8))) (rw t at e₄.1) in
    record {
      section = f.section ∙ sym g.section;
      owner = e₀.0;
      type = f.type ∙ t ∙ sym g.type;
      class = f.class ∙ u16_same a b (p + 2) (q + 2) e₂.0 ∙ sym g.class;
      ttl = f.ttl ∙ u32_same a b (p + 4) (q + 4) e₃.0 ∙ sym g.ttl;
      content = rw (f.content, g.content, f.type ∙ t) same;
    }

-- ── Two messages that read ──────────────────────────────────────────────────────────────────────────────────────────

-- the fields behind the header
pub behind : (m : List ℕ) (q : Message) (l : Laid m q)
    → fields_from (question_fields m) (records_fields m) (u16_at m 4) 12 ≡ together l.asking ++ (together l.answering ++ (together l.standing ++ together l.adding))
behind m q l =
    rw (l.says, together_append l.asking (l.answering ++ (l.standing ++ l.adding)), together_append l.answering (l.standing ++ l.adding), together_append l.standing l.adding) refl

-- the header's fields, as numbers and bits
pub record SameHeader (a b : List ℕ) : Type 0 where
  pub id : u16_at a 0 ≡ u16_at b 0
  pub bits : get_or a 2 0 ≡ get_or b 2 0
  pub count₀ : u16_at a 4 ≡ u16_at b 4
  pub count₁ : u16_at a 6 ≡ u16_at b 6
  pub count₂ : u16_at a 8 ≡ u16_at b 8
  pub count₃ : u16_at a 10 ≡ u16_at b 10

pub header_same : (a b : List ℕ) → same_fields (header_fields a) (header_fields b) ≡ true → SameHeader a b
unfolding header_fields same_field
header_same a b e =
    let e₀ = first_same _ _ _ _ e in
    let e₁ = first_same _ _ _ _ e₀.1 in
    let e₂ = first_same _ _ _ _ e₁.1 in
    let e₃ = first_same _ _ _ _ e₂.1 in
    let e₄ = first_same _ _ _ _ e₃.1 in
    let e₅ = first_same _ _ _ _ e₄.1 in
    record {
      id = u16_same a b 0 0 e₀.0;
      bits = sym (octet_at_lem a 2 2 0 (omega arith)) ∙ ap (λ (l : List ℕ). get_or l 0 0) (octets_same (part a 2 2) (part b 2 2) e₁.0) ∙ octet_at_lem b 2 2 0 (omega arith);
      count₀ = u16_same a b 4 4 e₂.0;
      count₁ = u16_same a b 6 6 e₃.0;
      count₂ = u16_same a b 8 8 e₄.0;
      count₃ = u16_same a b 10 10 e₅.0;
    }

pub header_level : (a b : List ℕ) → Level (header_fields a) (header_fields b)
unfolding header_fields
header_level a b = λ _ _ _ _ _ _. tt

module _ (a b : List ℕ) (q s : Message) (l : Laid a q) (k : Laid b s) where
  module _ (h : SameHeader a b) where
    same₀ : length q.questions ≡ length s.questions
    same₀ = l.count₀ ∙ h.count₀ ∙ sym k.count₀

    pub same₁ : length l.answers ≡ length k.answers
    same₁ = l.count₁ ∙ h.count₁ ∙ sym k.count₁

    pub same₂ : length l.authority ≡ length k.authority
    same₂ = l.count₂ ∙ h.count₂ ∙ sym k.count₂

    same₃ : length l.extra ≡ length k.extra
    same₃ = l.count₃ ∙ h.count₃ ∙ sym k.count₃

    level₀ : Level (together l.asking) (together k.asking)
    level₀ = level_each (ShowsQuestion a) (ShowsQuestion b) (question_level a b) q.questions l.asking s.questions k.asking l.questions k.questions same₀

    level₁ : Level (together l.answering) (together k.answering)
    level₁ = level_each (ShowsRecord a 1) (ShowsRecord b 1) (record_level a b 1) l.answers l.answering k.answers k.answering l.records₁ k.records₁ same₁

    level₂ : Level (together l.standing) (together k.standing)
    level₂ = level_each (ShowsRecord a 2) (ShowsRecord b 2) (record_level a b 2) l.authority l.standing k.authority k.standing l.records₂ k.records₂ same₂

    level₃ : Level (together l.adding) (together k.adding)
    level₃ = level_each (ShowsRecord a 3) (ShowsRecord b 3) (record_level a b 3) l.extra l.adding k.extra k.adding l.records₃ k.records₃ same₃

  -- Counts are fields: as long as the fields are the same, both messages have a next field or neither has one
  pub level_messages : Level (fields_of a) (fields_of b)
  unfolding fields_of
  level_messages =
      rw (behind a q l, behind b s k)
      (level_append (header_fields a) (header_fields b) _ _ (header_level a b) λ e.
      let h = header_same a b e in
      level_append (together l.asking) (together k.asking) _ _ (level₀ h) λ _.
      level_append (together l.answering) (together k.answering) _ _ (level₁ h) λ _.
      level_append (together l.standing) (together k.standing) _ _ (level₂ h) λ _. level₃ h)

  same_records : (h : SameHeader a b)
      → same_fields (together l.answering) (together k.answering) ≡ true
      → same_fields (together l.standing) (together k.standing) ≡ true
      → same_fields (together l.adding) (together k.adding) ≡ true
      → Each SameRecord q.records s.records
  same_records h e₁ e₂ e₃ =
      let r₁ = same_each (ShowsRecord a 1) (ShowsRecord b 1) (record_level a b 1) SameRecord (record_same a b 1) l.answers l.answering k.answers k.answering l.records₁ k.records₁ (same₁ h) e₁ in
      let r₂ = same_each (ShowsRecord a 2) (ShowsRecord b 2) (record_level a b 2) SameRecord (record_same a b 2) l.authority l.standing k.authority k.standing l.records₂ k.records₂ (same₂ h) e₂ in
      let r₃ = same_each (ShowsRecord a 3) (ShowsRecord b 3) (record_level a b 3) SameRecord (record_same a b 3) l.extra l.adding k.extra k.adding l.records₃ k.records₃ (same₃ h) e₃ in
      rw (l.records, k.records)
      (each_append SameRecord l.answers k.answers (l.authority ++ l.extra) (k.authority ++ k.extra) r₁ (each_append SameRecord l.authority k.authority l.extra k.extra r₂ r₃))

  pub same_message : SameMeaning a b → SameMessage q s
  unfolding fields_of message_of response_of opcode_of desired_of
  same_message e =
      let e₀ = same_parts (header_fields a) (header_fields b) _ _ (header_level a b) (rw (behind a q l, behind b s k) at e) in
      let h = header_same a b e₀.0 in
      let e₁ = same_parts (together l.asking) (together k.asking) _ _ (level₀ h) e₀.1 in
      let e₂ = same_parts (together l.answering) (together k.answering) _ _ (level₁ h) e₁.1 in
      let e₃ = same_parts (together l.standing) (together k.standing) _ _ (level₂ h) e₂.1 in
      record {
        id = ap (λ (m : Message). m.id) l.is ∙ h.id ∙ sym (ap (λ (m : Message). m.id) k.is);
        response = ap (λ (m : Message). m.response) l.is ∙ ap (leb 128) h.bits ∙ sym (ap (λ (m : Message). m.response) k.is);
        opcode = ap (λ (m : Message). m.opcode) l.is ∙ ap (λ (x : ℕ). x / 8 % 16) h.bits ∙ sym (ap (λ (m : Message). m.opcode) k.is);
        desired = ap (λ (m : Message). m.desired) l.is ∙ ap (λ (x : ℕ). x % 2) h.bits ∙ sym (ap (λ (m : Message). m.desired) k.is);
        asked = ap (λ (m : Message). m.asked) l.is ∙ h.count₀ ∙ sym (ap (λ (m : Message). m.asked) k.is);
        questions =
            same_each (ShowsQuestion a) (ShowsQuestion b) (question_level a b) SameQuestion (question_same a b) q.questions l.asking s.questions k.asking l.questions k.questions (same₀ h) e₁.0;
        records = same_records h e₂.0 e₃.0 e₃.1;
      }

-- ── What is proved of the verdict ───────────────────────────────────────────────────────────────────────────────────

-- "21 with the place in theirs of the first field that differs": it is the place of a field of theirs, as a difference in number shows at a count, or at a
-- type, before either list ends.
pub first_differs : (ours theirs : List ℕ) → Proper ours → Proper theirs → (place : ℕ) → compared ours theirs ≡ verdict DIFFERS place
    → FirstAt place (fields_of ours) (fields_of theirs)
unfolding first_difference
first_differs ours theirs p q place e =
    differs_at (length theirs) (fields_of ours) (fields_of theirs) place
    (level_messages ours theirs p.message q.message (laid ours p.message p.end p.says) (laid theirs q.message q.end q.says))
    (by_fields ours theirs p q place e)

-- A reply that is accepted differs from ours in nothing that a reader of messages sees, up to the case of names.
pub accepted_reads : (ours theirs : List ℕ) (p : Proper ours) (q : Proper theirs) → (compared ours theirs).number ≡ DONE → SameMessage p.message q.message
accepted_reads ours theirs p q e = go (only_accepted ours theirs e)
  where
    go : Allowed ours theirs → SameMessage p.message q.message
    go (inl n) = absurd (proper_some theirs q n.1)
    go (inr m) = same_message ours theirs p.message q.message (laid ours p.message p.end p.says) (laid theirs q.message q.end q.says) m.1
