-- Laws of comparing questions and records one after another: what differs first in the whole is what differs first in what is left. Assumes nothing.
use Prim.Native.Nat.{ℕ, suc, ◌+◌, ◌-◌, ◌≤◌, ◌<◌}
use mathlib.Core.Path.{◌≡◌, refl, ap, sym, ◌∙◌}
use mathlib.Core.Bool.{Bool, true, false, cond}
use Rattle.std.specs.Prelude.{None, Some, Option}
use mathlib.Core.List.{List, [], ◌∷◌, ◌++◌, append_assoc}
use native.Mathlib.Nat.{add_assoc}
use native.Mathlib.Omega.{arith}
use lib.ListN.{length}
use Rattle.model.specs.Octets.{part, u16_at, Reading, reads}
use Rattle.model.specs.Names.{read_name, same_name}
use Rattle.model.specs.Compare.{name_at, Placed, header_fields, question_form, record_form, data_fields, question_fields, record_fields, followed, fields_from, records_fields, fields_of, same_field, first_in, first_difference}
use Rattle.model.proofs.CompareFields.{level_data}
use Rattle.matching.specs.Compare.{same_read}
use Rattle.comparing.specs.declared.Walk.{Walk}
use Rattle.comparing.specs.declared.Walk.TheVariants.{Differs, Ends, Same as GoesOn}
use Rattle.comparing.specs.Fields.{octet_fields, NameStands, Begins, continued, Told, ToldFrom, counted, body_of, BodyTold}
use Rattle.comparing.proofs.Laws.{question_standing, record_standing, level_octets, or_else, first_join}
use Rattle.comparing.proofs.DataLaws.{nth_number}

-- ── Where one of two does not stand ─────────────────────────────────────────────────────────────────────────────────

module _ (end : ℕ) (ours theirs : Reading (List Placed)) where
  pub both_end : ((on : ℕ → List Placed) → followed ours on ≡ []) → ((on : ℕ → List Placed) → followed theirs on ≡ []) → Told end ours theirs Ends
  unfolding first_in
  both_end f g = record { says = λ on off. rw (f on, g off) refl }

  pub theirs_only : (at : ℕ) → ((on : ℕ → List Placed) → followed ours on ≡ []) → Begins at theirs → Told end ours theirs (Differs at)
  unfolding first_in
  theirs_only at f g = record { says = λ on off. rw (f on, g.says) refl }

  pub ours_only : (at : ℕ) → Begins at ours → ((on : ℕ → List Placed) → followed theirs on ≡ []) → Told end ours theirs (Differs end)
  unfolding first_in
  ours_only at f g = record { says = λ on off. rw (f.says, g off) refl }

-- ── Two questions ───────────────────────────────────────────────────────────────────────────────────────────────────

abbrev pub question_widths : List ℕ
question_widths = 2 ∷ 2 ∷ []

pub question_shows : (m : List ℕ) (at next : ℕ) (s : NameStands m at next 4) → question_fields m at ≡ reads (name_at at s.name ∷ octet_fields m next next question_widths) (next + 4)
unfolding question_form octet_fields
question_shows m at next s = question_standing m at next s

pub question_begins : (m : List ℕ) (at next : ℕ) → NameStands m at next 4 → Begins at (question_fields m at)
question_begins m at next s = record { first = _; rest = _; end = _; says = question_shows m at next s }

-- the names
same_names : (a b : List ℕ) (i j p q k l : ℕ) (s : NameStands a i p k) (t : NameStands b j q l) (u : Bool) → u ≡ same_read (read_name a i) (read_name b j) → u ≡ same_name s.name t.name
same_names a b i j p q k l s t u e = rw (s.named, t.named) at e

module _ (a b : List ℕ) (i j p q end : ℕ) (s : NameStands a i p 4) (t : NameStands b j q 4) (u : Bool) (named : u ≡ same_read (read_name a i) (read_name b j)) where
  parted : (on off : ℕ → List Placed)
      → first_in end (followed (question_fields a i) on) (followed (question_fields b j) off)
      ≡ cond u (or_else (first_in end (octet_fields a p p question_widths) (octet_fields b q q question_widths)) (first_in end (on (p + 4)) (off (q + 4)))) (Some j)
  unfolding first_in same_field
  parted on off =
      let join = first_join end (octet_fields a p p question_widths) (octet_fields b q q question_widths) (on (p + 4)) (off (q + 4)) (level_octets a p p b q q question_widths) in
      rw (question_shows a i p s, question_shows b j q t, sym (same_names a b i j p q 4 4 s t u named), join) refl

  pub question_other : u ≡ false → Told end (question_fields a i) (question_fields b j) (Differs j)
  question_other f = record { says = λ on off. parted on off ∙ rw f refl }

  module _ (same : u ≡ true) (r : Option ℕ) (fixed : (end at : ℕ) → first_in end (octet_fields a p at question_widths) (octet_fields b q q question_widths) ≡ r) where
    pub question_differs : (place : ℕ) → r ≡ Some place → Told end (question_fields a i) (question_fields b j) (Differs place)
    question_differs place e = record { says = λ on off. parted on off ∙ rw (same, fixed end p, e) refl }

    pub question_same : r ≡ None → Told end (question_fields a i) (question_fields b j) (GoesOn (p + 4) (q + 4))
    question_same e = record { says = λ on off. parted on off ∙ rw (same, fixed end p, e) refl }

-- ── Two records ─────────────────────────────────────────────────────────────────────────────────────────────────────

abbrev pub record_data : List ℕ → ℕ → List Placed
record_data m next = data_fields (u16_at m next) (next + 10) (part m (next + 10) (u16_at m (next + 8)))

abbrev pub record_widths : List ℕ
record_widths = 2 ∷ 2 ∷ 4 ∷ 2 ∷ []

pub record_shows : (m : List ℕ) (at next : ℕ) (s : NameStands m at next (10 + u16_at m (next + 8)))
    → record_fields m at ≡ reads (name_at at s.name ∷ (octet_fields m next next record_widths ++ record_data m next)) (next + 10 + u16_at m (next + 8))
unfolding record_form octet_fields
record_shows m at next s = record_standing m at next s ∙ simp add_assoc

pub record_begins : (m : List ℕ) (at next : ℕ) → NameStands m at next (10 + u16_at m (next + 8)) → Begins at (record_fields m at)
record_begins m at next s = record { first = _; rest = _; end = _; says = record_shows m at next s }

module _ (a b : List ℕ) (p q : ℕ) (r : Option ℕ) (says : (end at : ℕ) → first_in end (octet_fields a p at record_widths) (octet_fields b q q record_widths) ≡ r) (e : r ≡ None) where
  none_there : first_in 0 (octet_fields a p 0 record_widths) (octet_fields b q q record_widths) ≡ None
  none_there = says 0 0 ∙ e

  pub same_type : u16_at a p ≡ u16_at b q
  same_type = let x : p + 0 ≡ p = omega arith in let y : q + 0 ≡ q = omega arith in rw (x, y) at (nth_number 0 a p 0 b q q [] (2 ∷ 4 ∷ 2 ∷ []) none_there)

  pub same_size : u16_at a (p + 8) ≡ u16_at b (q + 8)
  same_size = nth_number 0 a p 0 b q q (2 ∷ 2 ∷ 4 ∷ []) [] none_there

module _ (a b : List ℕ) (i j p q end : ℕ) (s : NameStands a i p (10 + u16_at a (p + 8))) (t : NameStands b j q (10 + u16_at b (q + 8)))
    (u : Bool) (named : u ≡ same_read (read_name a i) (read_name b j)) where
  abbrev on-a : (ℕ → List Placed) → List Placed
  on-a on = on (p + 10 + u16_at a (p + 8))

  abbrev on-b : (ℕ → List Placed) → List Placed
  on-b on = on (q + 10 + u16_at b (q + 8))

  parted_record : (on off : ℕ → List Placed)
      → first_in end (followed (record_fields a i) on) (followed (record_fields b j) off)
      ≡ cond u (or_else (first_in end (octet_fields a p p record_widths) (octet_fields b q q record_widths)) (first_in end (record_data a p ++ on-a on) (record_data b q ++ on-b off))) (Some j)
  unfolding first_in same_field
  parted_record on off =
      let join = first_join end (octet_fields a p p record_widths) (octet_fields b q q record_widths) (record_data a p ++ on-a on) (record_data b q ++ on-b off) (level_octets a p p b q q record_widths) in
      rw (record_shows a i p s, record_shows b j q t, sym (same_names a b i j p q _ _ s t u named), append_assoc (octet_fields a p p record_widths) (record_data a p) (on-a on), append_assoc (octet_fields b q q record_widths) (record_data b q) (on-b off), join) refl

  pub record_other : u ≡ false → Told end (record_fields a i) (record_fields b j) (Differs j)
  record_other f = record { says = λ on off. parted_record on off ∙ rw f refl }

  module _ (same : u ≡ true) (r : Option ℕ) (says : (end at : ℕ) → first_in end (octet_fields a p at record_widths) (octet_fields b q q record_widths) ≡ r) where
    pub record_differs : (place : ℕ) → r ≡ Some place → Told end (record_fields a i) (record_fields b j) (Differs place)
    record_differs place e = record { says = λ on off. parted_record on off ∙ rw (same, says end p, e) refl }

    module _ (e : r ≡ None) (d : Option ℕ)
        (told : (end : ℕ) → first_in end (record_data a p) (data_fields (u16_at a p) (q + 10) (part b (q + 10) (u16_at b (q + 8)))) ≡ d) where
      parted_data : (on off : ℕ → List Placed) → first_in end (followed (record_fields a i) on) (followed (record_fields b j) off) ≡ or_else (d) (first_in end (on-a on) (on-b off))
      parted_data on off =
          let k = same_type a b p q r says e in
          let join = first_join end (record_data a p) (data_fields (u16_at a p) (q + 10) (part b (q + 10) (u16_at b (q + 8)))) (on-a on) (on-b off) (level_data (u16_at a p) (p + 10) (q + 10) _ _) in
          parted_record on off ∙ rw (same, says end p, e, sym k) (join ∙ rw (told end) refl)

      pub record_data_differs : (place : ℕ) → d ≡ Some place → Told end (record_fields a i) (record_fields b j) (Differs place)
      record_data_differs place f = record { says = λ on off. parted_data on off ∙ rw f refl }

      pub record_same : (n : ℕ) → n ≡ u16_at a (p + 8) → d ≡ None → Told end (record_fields a i) (record_fields b j) (GoesOn (p + 10 + n) (q + 10 + n))
      record_same n is f = record { says = λ on off. parted_data on off ∙ rw (f, is, same_size a b p q r says e) refl }

-- ── One after another ───────────────────────────────────────────────────────────────────────────────────────────────

-- `left` are left of n, from i and j on
pub record Walking (end : ℕ) (ours theirs : ℕ → Reading (List Placed)) (n from to left i j : ℕ) : Type 0 where
  pub says : (on off : ℕ → List Placed) → first_in end (fields_from ours on n from) (fields_from theirs off n to) ≡ first_in end (fields_from ours on left i) (fields_from theirs off left j)

pub walking_starts : (end : ℕ) (ours theirs : ℕ → Reading (List Placed)) (n i j left : ℕ) → left ≡ n → Walking end ours theirs n i j left i j
walking_starts end ours theirs n i j left e = rw e (record { says = λ on off. refl })

module _ (end : ℕ) (ours theirs : ℕ → Reading (List Placed)) (n from to left i j : ℕ) (g : Walking end ours theirs n from to left i j) where
  pub walking_ends : left ≤ 0 → ToldFrom end ours theirs n from to (GoesOn i j)
  unfolding fields_from
  walking_ends z = record { says = λ on off. let e : left ≡ 0 = omega arith in g.says on off ∙ rw e refl }

  module _ (more : 0 < left) (r : Walk) (one : Told end (ours i) (theirs j) r) where
    next : (on off : ℕ → List Placed) → first_in end (fields_from ours on n from) (fields_from theirs off n to)
        ≡ continued r (λ p q. first_in end (fields_from ours on (left - 1) p) (fields_from theirs off (left - 1) q))
    unfolding fields_from
    next on off =
        let e : left ≡ suc (left - 1) = omega arith in
        g.says on off
        ∙ ap (λ (k : ℕ). first_in end (fields_from ours on k i) (fields_from theirs off k j)) e
        ∙ one.says (λ p. fields_from ours on (left - 1) p) (λ q. fields_from theirs off (left - 1) q)

    pub walking_differs : (place : ℕ) → r ≡ Differs place → ToldFrom end ours theirs n from to (Differs place)
    walking_differs place e = record { says = λ on off. next on off ∙ rw e refl }

    pub walking_stops : r ≡ Ends → ToldFrom end ours theirs n from to Ends
    walking_stops e = record { says = λ on off. next on off ∙ rw e refl }

    pub walking_on : (p q : ℕ) → r ≡ GoesOn p q → (k : ℕ) → k ≡ left - 1 → Walking end ours theirs n from to k p q
    walking_on p q e k h = rw h (record { says = λ on off. next on off ∙ rw e refl })

-- as counted in theirs
pub walked_count : (end : ℕ) (ours theirs : ℕ → Reading (List Placed)) (n k from to : ℕ) (r : Walk) → n ≡ k → ToldFrom end ours theirs n from to r → ToldFrom end ours theirs k from to r
walked_count end ours theirs n k from to r e t = rw (sym e) t

-- ── Behind the header ───────────────────────────────────────────────────────────────────────────────────────────────

module _ (a b : List ℕ) (n : ℕ) (is : n ≡ u16_at b 4) (r : Walk) (asked : ToldFrom (length b) (question_fields a) (question_fields b) n 12 12 r) where
  body : first_in (length b) (body_of a (u16_at b 4) (counted b)) (body_of b (u16_at b 4) (counted b))
      ≡ continued r (λ p q. first_in (length b) (fields_from (record_fields a) (λ end. []) (counted b) p) (fields_from (record_fields b) (λ end. []) (counted b) q))
  body = rw (sym is) (asked.says (λ p. fields_from (record_fields a) (λ end. []) (counted b) p) (λ q. fields_from (record_fields b) (λ end. []) (counted b) q))

  pub body_differs : (place : ℕ) → r ≡ Differs place → BodyTold a b (Differs place)
  body_differs place e = record { says = body ∙ rw e refl }

  pub body_ends : r ≡ Ends → BodyTold a b Ends
  body_ends e = record { says = body ∙ rw e refl }

  pub body_on : (p q : ℕ) → r ≡ GoesOn p q → (s : Walk) → ToldFrom (length b) (record_fields a) (record_fields b) (counted b) p q s → BodyTold a b s
  unfolding first_in
  body_on p q e s t = record { says = body ∙ rw e (t.says (λ end. []) (λ end. [])) }

-- ── The whole ───────────────────────────────────────────────────────────────────────────────────────────────────────

abbrev pub header_widths : List ℕ
header_widths = 2 ∷ 2 ∷ 2 ∷ 2 ∷ 2 ∷ 2 ∷ []

header_is : (m : List ℕ) → header_fields m ≡ octet_fields m 0 0 header_widths
unfolding header_fields octet_fields
header_is m = refl

module _ (a b : List ℕ) (r : Option ℕ) (header : (end at : ℕ) → first_in end (octet_fields a 0 at header_widths) (octet_fields b 0 0 header_widths) ≡ r) where
  halves : first_difference a b ≡ or_else (r) (first_in (length b) (body_of a (u16_at a 4) (counted a)) (body_of b (u16_at b 4) (counted b)))
  unfolding first_difference fields_of records_fields
  halves =
      rw (header_is a, header_is b)
      (first_join (length b) (octet_fields a 0 0 header_widths) (octet_fields b 0 0 header_widths) (body_of a (u16_at a 4) (counted a)) (body_of b (u16_at b 4) (counted b)) (level_octets a 0 0 b 0 0 header_widths)
      ∙ rw (header (length b) 0) refl)

  pub header_differs : (place : ℕ) → r ≡ Some place → first_difference a b ≡ Some place
  header_differs place e = halves ∙ rw e refl

  module _ (e : r ≡ None) (w : Walk) (rest : BodyTold a b w) where
    none_here : first_in 0 (octet_fields a 0 0 header_widths) (octet_fields b 0 0 header_widths) ≡ None
    none_here = header 0 0 ∙ e

    by_counts : first_difference a b ≡ continued w (λ p q. None)
    by_counts =
        let c₀ : u16_at a 4 ≡ u16_at b 4 = nth_number 0 a 0 0 b 0 0 (2 ∷ 2 ∷ []) (2 ∷ 2 ∷ 2 ∷ []) none_here in
        let c₁ : u16_at a 6 ≡ u16_at b 6 = nth_number 0 a 0 0 b 0 0 (2 ∷ 2 ∷ 2 ∷ []) (2 ∷ 2 ∷ []) none_here in
        let c₂ : u16_at a 8 ≡ u16_at b 8 = nth_number 0 a 0 0 b 0 0 (2 ∷ 2 ∷ 2 ∷ 2 ∷ []) (2 ∷ []) none_here in
        let c₃ : u16_at a 10 ≡ u16_at b 10 = nth_number 0 a 0 0 b 0 0 (2 ∷ 2 ∷ 2 ∷ 2 ∷ 2 ∷ []) [] none_here in
        halves ∙ rw (e, c₀, c₁, c₂, c₃) rest.says

    pub later_differs : (place : ℕ) → w ≡ Differs place → first_difference a b ≡ Some place
    later_differs place f = by_counts ∙ rw f refl

    pub none_differs : w ≡ Ends → first_difference a b ≡ None
    none_differs f = by_counts ∙ rw f refl

    pub all_same : (p q : ℕ) → w ≡ GoesOn p q → first_difference a b ≡ None
    all_same p q f = by_counts ∙ rw f refl
