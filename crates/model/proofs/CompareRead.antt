-- A message that reads shows its fields: each question and each record that was read, in order, with what it is read from. Assumes nothing.
use Prim.Native.Nat.{ℕ, zero, suc, ◌+◌, ◌≤◌}
use mathlib.Core.Path.{◌≡◌, refl, sym, ap, ap₂, subst, ◌∙◌}
use mathlib.Core.Bool.{Bool, true, false, cond}
use mathlib.Core.List.{List, [], ◌∷◌, ◌++◌, append_assoc, append-nil}
use native.Mathlib.Nat.{zero-add}
use native.Mathlib.Omega.{arith}
use borrow.Author.Tests.{ltb-false, le-ltb}
use lib.Dec.{ltb, eqb}
use lib.ListN.{length}
use Rattle.model.specs.Octets.{u16_at, u32_at, part, Reading, stops, reads, then, also, many}
use Rattle.model.specs.Names.{read_name}
use Rattle.model.specs.Messages.{Question, Record, Message, after_question_name, question_at, record_data, after_owner, record_at, questions_of, section, records_of, answer_section, authority_section, additional_section, message_of, wholly, read_sections, read_message}
use Rattle.model.specs.Compare.{Placed, question_form, record_form, question_fields, record_fields, fields_from, records_fields, Each}

-- ── What was read, step by step ─────────────────────────────────────────────────────────────────────────────────────

pub record Thened {A B : Type 0} (r : Reading A) (on : A → ℕ → Reading B) (b : B) (next : ℕ) : Type 0 where
  pub first : A
  pub mid : ℕ
  pub here : r ≡ reads first mid
  pub rest : on first mid ≡ reads b next

pub then_read : {A B : Type 0} (r : Reading A) (on : A → ℕ → Reading B) (b : B) (next : ℕ) → then r on ≡ reads b next → Thened r on b next
then_read (stops place) on b next e = let z : ◌≡◌ {A = ℕ} 0 1 = cc in absurd (omega arith)
then_read (reads a mid) on b next e = record { first = a; mid = mid; here = refl; rest = e }

pub record Alsoed {A B : Type 0} (f : A → B) (r : Reading A) (b : B) (next : ℕ) : Type 0 where
  pub first : A
  pub here : r ≡ reads first next
  pub is : b ≡ f first

pub also_read : {A B : Type 0} (f : A → B) (r : Reading A) (b : B) (next : ℕ) → also f r ≡ reads b next → Alsoed f r b next
also_read f (stops place) b next e = let z : ◌≡◌ {A = ℕ} 0 1 = cc in absurd (omega arith)
also_read f (reads a mid) b next e =
    let n : mid ≡ next = cc in
    let i : b ≡ f a = cc in
    record { first = a; here = ap (λ (k : ℕ). reads a k) n; is = i }

-- a test before it
pub tested : {A : Type 0} (t : Bool) (place : ℕ) (r : Reading A) (a : A) (next : ℕ) → cond t (stops place) r ≡ reads a next → r ≡ reads a next
tested true place r a next e = let z : ◌≡◌ {A = ℕ} 0 1 = cc in absurd (omega arith)
tested false place r a next e = e

-- and what it says
pub passed : {A : Type 0} (x y place : ℕ) (r : Reading A) (a : A) (next : ℕ) → cond (ltb x y) (stops place) r ≡ reads a next → y ≤ x
passed x y place r a next e = go (ltb x y) refl e
  where
    go : (t : Bool) → ltb x y ≡ t → cond t (stops place) r ≡ reads a next → y ≤ x
    go true i e = let z : ◌≡◌ {A = ℕ} 0 1 = cc in absurd (omega arith)
    go false i e = ltb-false x y i

-- ── Questions and records ───────────────────────────────────────────────────────────────────────────────────────────

-- These are the fields of the question q of m.
pub record ShowsQuestion (m : List ℕ) (q : Question) (fs : List Placed) : Type 0 where
  pub at : ℕ
  pub next : ℕ
  pub is : fs ≡ question_form m at q.name next
  pub type : q.type ≡ u16_at m next
  pub class : q.class ≡ u16_at m (next + 2)
  pub fits : next + 4 ≤ length m

-- These are the fields of the record r of m, in the section k.
pub record ShowsRecord (m : List ℕ) (k : ℕ) (r : Record) (fs : List Placed) : Type 0 where
  pub at : ℕ
  pub next : ℕ
  pub named : read_name m at ≡ reads r.owner next
  pub is : fs ≡ record_form m at r.owner next
  pub section : r.section ≡ k
  pub type : r.type ≡ u16_at m next
  pub class : r.class ≡ u16_at m (next + 2)
  pub ttl : r.ttl ≡ u32_at m (next + 4)
  pub content : r.content ≡ part m (next + 10) (u16_at m (next + 8))
  pub fits : next + 10 + u16_at m (next + 8) ≤ length m

-- What was read has its fields read too.
pub record Shown {A B : Type 0} (P : A → B → Type 0) (r : Reading B) (a : A) (next : ℕ) : Type 0 where
  pub fields : B
  pub says : r ≡ reads fields next
  pub shows : P a fields

question_by : (m : List ℕ) (at : ℕ) (q : Question) (end : ℕ) (n : List ℕ) (p : ℕ) → read_name m at ≡ reads n p → after_question_name m n p ≡ reads q end
    → Shown (ShowsQuestion m) (question_fields m at) q end
unfolding after_question_name question_fields
question_by m at q end n p here e =
    let asked : Reading Question = reads (record { name = n; type = u16_at m p; class = u16_at m (p + 2) }) (p + 4) in
    let u = tested (ltb (length m) (p + 4)) (length m) asked q end e in
    let fits = passed (length m) (p + 4) (length m) asked q end e in
    let o : q.name ≡ n = cc in
    let z : p + 4 ≡ end = cc in
    record {
      fields = question_form m at n p;
      says = rw (here, le-ltb (length m) (p + 4) fits, z) refl;
      shows = record { at = at; next = p; is = ap (λ (x : List ℕ). question_form m at x p) (sym o); type = cc; class = cc; fits = fits };
    }

pub question_shown : (m : List ℕ) (at : ℕ) (q : Question) (end : ℕ) → question_at m at ≡ reads q end → Shown (ShowsQuestion m) (question_fields m at) q end
unfolding question_at
question_shown m at q end e = let t = then_read (read_name m at) (after_question_name m) q end e in question_by m at q end t.first t.mid t.here t.rest

record_by : (m : List ℕ) (k at : ℕ) (r : Record) (end : ℕ) (n : List ℕ) (p : ℕ) → read_name m at ≡ reads n p → after_owner m k n p ≡ reads r end
    → Shown (ShowsRecord m k) (record_fields m at) r end
unfolding after_owner record_data record_fields
record_by m k at r end n p here e =
    let s = u16_at m (p + 8) in
    let whole : Reading Record = reads (record { section = k; owner = n; type = u16_at m p; class = u16_at m (p + 2); ttl = u32_at m (p + 4); content = part m (p + 10) s }) (p + 10 + s) in
    let u = tested (ltb (length m) (p + 10)) (length m) (cond (ltb (length m) (p + 10 + s)) (stops (length m)) whole) r end e in
    let v = tested (ltb (length m) (p + 10 + s)) (length m) whole r end u in
    let fits = passed (length m) (p + 10 + s) (length m) whole r end u in
    let o : r.owner ≡ n = cc in
    let z : p + 10 + s ≡ end = cc in
    record {
      fields = record_form m at n p;
      says = rw (here, le-ltb (length m) (p + 10 + s) fits, z) refl;
      shows = record { at = at; next = p; named = here ∙ ap (λ (x : List ℕ). reads x p) (sym o); is = ap (λ (x : List ℕ). record_form m at x p) (sym o); section = cc; type = cc; class = cc; ttl = cc; content = cc; fits = fits };
    }

pub record_shown : (m : List ℕ) (k at : ℕ) (r : Record) (end : ℕ) → record_at m k at ≡ reads r end → Shown (ShowsRecord m k) (record_fields m at) r end
unfolding record_at
record_shown m k at r end e = let t = then_read (read_name m at) (after_owner m k) r end e in record_by m k at r end t.first t.mid t.here t.rest

-- ── Many ────────────────────────────────────────────────────────────────────────────────────────────────────────────

module _ {A B : Type 0} (P : A → B → Type 0) (one : ℕ → Reading A) (two : ℕ → Reading B) (shown : (at : ℕ) (a : A) (end : ℕ) → one at ≡ reads a end → Shown P (two at) a end) where
  pub many_shown : (n at : ℕ) (xs : List A) (end : ℕ) → many one n at ≡ reads xs end → Shown (Each P) (many two n at) xs end
  unfolding many
  many_shown zero at xs end e =
      let x : [] ≡ xs = cc in
      let z : at ≡ end = cc in
      record { fields = []; says = rw z refl; shows = subst (λ (l : List A). Each P l []) x tt }
  many_shown (suc n) at xs end e =
      let t = then_read (one at) (λ a next. also (λ rest. a ∷ rest) (many one n next)) xs end e in
      let s = shown at t.first t.mid t.here in
      let u = also_read (λ rest. t.first ∷ rest) (many one n t.mid) xs end t.rest in
      let r = many_shown n t.mid u.first end u.here in
      record {
        fields = s.fields ∷ r.fields;
        says = rw (s.says, r.says) refl;
        shows = subst (λ (l : List A). Each P l (s.fields ∷ r.fields)) (sym u.is) (s.shows, r.shows);
      }

module _ {A : Type 0} (one : ℕ → Reading A) where
  pub many_length : (n at : ℕ) (xs : List A) (end : ℕ) → many one n at ≡ reads xs end → length xs ≡ n
  unfolding many
  many_length zero at xs end e = let x : [] ≡ xs = cc in rw (sym x) refl
  many_length (suc n) at xs end e =
      let t = then_read (one at) (λ a next. also (λ rest. a ∷ rest) (many one n next)) xs end e in
      let u = also_read (λ rest. t.first ∷ rest) (many one n t.mid) xs end t.rest in
      rw u.is (ap suc (many_length n t.mid u.first end u.here))

  -- some, and then some more
  pub many_more : (n k at : ℕ) (xs : List A) (mid : ℕ) (ys : List A) (end : ℕ) → many one n at ≡ reads xs mid → many one k mid ≡ reads ys end
      → many one (n + k) at ≡ reads (xs ++ ys) end
  unfolding many
  many_more zero k at xs mid ys end e f =
      let x : [] ≡ xs = cc in
      let z : at ≡ mid = cc in
      rw (zero-add, z, sym x) f
  many_more (suc n) k at xs mid ys end e f =
      let t = then_read (one at) (λ a next. also (λ rest. a ∷ rest) (many one n next)) xs mid e in
      let u = also_read (λ rest. t.first ∷ rest) (many one n t.mid) xs mid t.rest in
      let s : suc n + k ≡ suc (n + k) = omega arith in
      rw (s, t.here, many_more n k t.mid u.first mid ys end u.here f) (ap (λ (l : List A). reads (l ++ ys) end) (sym u.is))

-- ── Their fields ────────────────────────────────────────────────────────────────────────────────────────────────────

abbrev pub together : List (List Placed) → List Placed
together [] = []
together (x ∷ xs) = x ++ together xs

pub together_append : (xs ys : List (List Placed)) → together (xs ++ ys) ≡ together xs ++ together ys
together_append [] ys = refl
together_append (x ∷ xs) ys = rw (together_append xs ys, append_assoc) refl

pub fields_many : (one : ℕ → Reading (List Placed)) (on : ℕ → List Placed) (n at : ℕ) (xs : List (List Placed)) (end : ℕ) → many one n at ≡ reads xs end
    → fields_from one on n at ≡ together xs ++ on end
unfolding many fields_from
fields_many one on zero at xs end e =
    let x : [] ≡ xs = cc in
    let z : at ≡ end = cc in
    rw (z, sym x) refl
fields_many one on (suc n) at xs end e =
    let t = then_read (one at) (λ a next. also (λ rest. a ∷ rest) (many one n next)) xs end e in
    let u = also_read (λ rest. t.first ∷ rest) (many one n t.mid) xs end t.rest in
    rw (t.here, fields_many one on n t.mid u.first end u.here)
    (sym (append_assoc t.first (together u.first) (on end)) ∙ ap (λ (l : List (List Placed)). together l ++ on end) (sym u.is))

-- ── A message ───────────────────────────────────────────────────────────────────────────────────────────────────────

-- The fields of the message m, which read as q: of its questions, and of the records of each section.
pub record Laid (m : List ℕ) (q : Message) : Type 0 where
  pub asking : List (List Placed)
  pub answering : List (List Placed)
  pub standing : List (List Placed)
  pub adding : List (List Placed)
  pub answers : List Record
  pub authority : List Record
  pub extra : List Record
  pub says : fields_from (question_fields m) (records_fields m) (u16_at m 4) 12 ≡ together (asking ++ (answering ++ (standing ++ adding)))
  pub questions : Each (ShowsQuestion m) q.questions asking
  pub records₁ : Each (ShowsRecord m 1) answers answering
  pub records₂ : Each (ShowsRecord m 2) authority standing
  pub records₃ : Each (ShowsRecord m 3) extra adding
  pub records : q.records ≡ answers ++ (authority ++ extra)
  pub count₀ : length q.questions ≡ u16_at m 4
  pub count₁ : length answers ≡ u16_at m 6
  pub count₂ : length authority ≡ u16_at m 8
  pub count₃ : length extra ≡ u16_at m 10
  pub last : ℕ
  pub is : q ≡ message_of m q.questions last q.records
  pub asks : many (question_at m) (u16_at m 4) 12 ≡ reads q.questions last

laid_by :
    (m : List ℕ) (q : Message) (qs : List Question) (p₀ : ℕ) (as₁ as₂ as₃ : List Record) (p₁ p₂ p₃ : ℕ)
    → many (question_at m) (u16_at m 4) 12 ≡ reads qs p₀
    → many (record_at m 1) (u16_at m 6) p₀ ≡ reads as₁ p₁
    → many (record_at m 2) (u16_at m 8) p₁ ≡ reads as₂ p₂
    → many (record_at m 3) (u16_at m 10) p₂ ≡ reads as₃ p₃
    → q ≡ message_of m qs p₀ (as₁ ++ (as₂ ++ as₃))
    → Laid m q
unfolding records_fields message_of
laid_by m q qs p₀ as₁ as₂ as₃ p₁ p₂ p₃ e₀ e₁ e₂ e₃ i =
    let f₀ = many_shown (ShowsQuestion m) (question_at m) (question_fields m) (question_shown m) (u16_at m 4) 12 qs p₀ e₀ in
    let f₁ = many_shown (ShowsRecord m 1) (record_at m 1) (record_fields m) (record_shown m 1) (u16_at m 6) p₀ as₁ p₁ e₁ in
    let f₂ = many_shown (ShowsRecord m 2) (record_at m 2) (record_fields m) (record_shown m 2) (u16_at m 8) p₁ as₂ p₂ e₂ in
    let f₃ = many_shown (ShowsRecord m 3) (record_at m 3) (record_fields m) (record_shown m 3) (u16_at m 10) p₂ as₃ p₃ e₃ in
    let g₂ = many_more (record_fields m) (u16_at m 8) (u16_at m 10) p₁ f₂.fields p₂ f₃.fields p₃ f₂.says f₃.says in
    let g₁ = many_more (record_fields m) (u16_at m 6) (u16_at m 8 + u16_at m 10) p₀ f₁.fields p₁ (f₂.fields ++ f₃.fields) p₃ f₁.says g₂ in
    let rest = f₁.fields ++ (f₂.fields ++ f₃.fields) in
    let asked : q.questions ≡ qs = ap (λ (x : Message). x.questions) i in
    let kept : q.records ≡ as₁ ++ (as₂ ++ as₃) = ap (λ (x : Message). x.records) i in
    record {
      asking = f₀.fields;
      answering = f₁.fields;
      standing = f₂.fields;
      adding = f₃.fields;
      answers = as₁;
      authority = as₂;
      extra = as₃;
      says =
          fields_many (question_fields m) (records_fields m) (u16_at m 4) 12 f₀.fields p₀ f₀.says
          ∙ ap (λ (l : List Placed). together f₀.fields ++ l) (fields_many (record_fields m) (λ end. []) (u16_at m 6 + (u16_at m 8 + u16_at m 10)) p₀ rest p₃ g₁ ∙ append-nil (together rest))
          ∙ sym (together_append f₀.fields rest);
      questions = subst (λ (l : List Question). Each (ShowsQuestion m) l f₀.fields) (sym asked) f₀.shows;
      records₁ = f₁.shows;
      records₂ = f₂.shows;
      records₃ = f₃.shows;
      records = kept;
      count₀ = ap length asked ∙ many_length (question_at m) (u16_at m 4) 12 qs p₀ e₀;
      count₁ = many_length (record_at m 1) (u16_at m 6) p₀ as₁ p₁ e₁;
      count₂ = many_length (record_at m 2) (u16_at m 8) p₁ as₂ p₂ e₂;
      count₃ = many_length (record_at m 3) (u16_at m 10) p₂ as₃ p₃ e₃;
      last = p₀;
      is = i ∙ ap₂ (λ (x : List Question) (y : List Record). message_of m x p₀ y) (sym asked) (sym kept);
      asks = e₀ ∙ ap (λ (l : List Question). reads l p₀) (sym asked);
    }

-- no octet is left over
all_read : (m : List ℕ) (qs : List Question) (p : ℕ) (rs : List Record) (next : ℕ) (q : Message) (end : ℕ) → wholly m qs p rs next ≡ reads q end → q ≡ message_of m qs p rs
unfolding wholly
all_read m qs p rs next q end e = go (eqb next (length m)) e
  where
    go : (t : Bool) → cond t (reads (message_of m qs p rs) next) (stops next) ≡ reads q end → q ≡ message_of m qs p rs
    go true e = cc
    go false e = let z : ◌≡◌ {A = ℕ} 0 1 = cc in absurd (omega arith)

-- the records of three sections
three : (rs a₁ a₂ a₃ b₁ b₂ : List Record) → b₁ ≡ [] ++ a₁ → b₂ ≡ b₁ ++ a₂ → rs ≡ b₂ ++ a₃ → rs ≡ a₁ ++ (a₂ ++ a₃)
three rs a₁ a₂ a₃ b₁ b₂ e₁ e₂ e₃ = rw (e₃, e₂, e₁, append_assoc a₁) refl

module _ (m : List ℕ) (q : Message) (qs : List Question) (p₀ : ℕ) (e₀ : many (question_at m) (u16_at m 4) 12 ≡ reads qs p₀) where
  laid_three : (rs b₁ b₂ : List Record) (p₁ p₂ p₃ : ℕ) → q ≡ message_of m qs p₀ rs
      → Alsoed (λ rs. [] ++ rs) (many (record_at m 1) (u16_at m 6) p₀) b₁ p₁
      → Alsoed (λ rs. b₁ ++ rs) (many (record_at m 2) (u16_at m 8) p₁) b₂ p₂
      → Alsoed (λ rs. b₂ ++ rs) (many (record_at m 3) (u16_at m 10) p₂) rs p₃
      → Laid m q
  laid_three rs b₁ b₂ p₁ p₂ p₃ i s₁ s₂ s₃ =
      laid_by m q qs p₀ s₁.first s₂.first s₃.first p₁ p₂ p₃ e₀ s₁.here s₂.here s₃.here
      (i ∙ ap (message_of m qs p₀) (three rs s₁.first s₂.first s₃.first b₁ b₂ s₁.is s₂.is s₃.is))

  laid_sections : (rs : List Record) (next : ℕ) → records_of m p₀ ≡ reads rs next → q ≡ message_of m qs p₀ rs → Laid m q
  unfolding records_of section answer_section authority_section additional_section
  laid_sections rs next e i =
      let t₁ = then_read (section m 1 (u16_at m 6) [] p₀) (λ answers place. then (section m 2 (u16_at m 8) answers place) (λ two after. section m 3 (u16_at m 10) two after)) rs next e in
      let t₂ = then_read (section m 2 (u16_at m 8) t₁.first t₁.mid) (λ two after. section m 3 (u16_at m 10) two after) rs next t₁.rest in
      laid_three rs t₁.first t₂.first t₁.mid t₂.mid next i
      (also_read (λ rs. [] ++ rs) (many (record_at m 1) (u16_at m 6) p₀) t₁.first t₁.mid t₁.here)
      (also_read (λ rs. t₁.first ++ rs) (many (record_at m 2) (u16_at m 8) t₁.mid) t₂.first t₂.mid t₂.here)
      (also_read (λ rs. t₂.first ++ rs) (many (record_at m 3) (u16_at m 10) t₂.mid) rs next t₂.rest)

pub laid : (m : List ℕ) (q : Message) (end : ℕ) → read_message m ≡ reads q end → Laid m q
unfolding read_message read_sections questions_of
laid m q end e =
    let u = tested (ltb (length m) 12) (length m) (read_sections m) q end e in
    let t = then_read (questions_of m) (λ qs p. then (records_of m p) (λ rs next. wholly m qs p rs next)) q end u in
    let r = then_read (records_of m t.mid) (λ rs next. wholly m t.first t.mid rs next) q end t.rest in
    laid_sections m q t.first t.mid t.here r.first r.mid r.here (all_read m t.first t.mid r.first r.mid q end r.rest)
