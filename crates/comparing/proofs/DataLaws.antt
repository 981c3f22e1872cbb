-- Laws of a record's data, field by field. Assumes nothing.
use Prim.Native.Nat.{ℕ, ◌+◌, ◌≤◌, ◌<◌}
use mathlib.Core.Path.{◌≡◌, refl, sym, ◌∙◌}
use mathlib.Core.Bool.{Bool, true, false, cond, false≢true}
use Rattle.std.specs.Prelude.{Option, None, Some}
use mathlib.Core.List.{List, [], ◌∷◌, ◌++◌}
use native.Mathlib.Nat.{add_assoc, add-zero}
use native.Mathlib.Omega.{arith}
use borrow.Author.Tests.{lt-ltb, le-ltb, eq-eqb, ne_eqb}
use lib.ListN.{length, drop}
use Rattle.model.specs.Octets.{part, u16_at, Reading, stops, reads}
use Rattle.model.specs.Names.{read_name, read_plain}
use Rattle.model.specs.Tkey.{tkey_type}
use Rattle.model.specs.Compare.{tkey_end, tkey_middle, tkey_fields, data_fields, same_octets, same_field, first_in}
use Rattle.model.proofs.NameLaws.{same_length}
use Rattle.model.proofs.CompareFields.{u16_same, plain_next}
use Rattle.matching.specs.Compare.{same_read}
use Rattle.comparing.specs.Fields.{unless, total, octet_fields}
use Rattle.comparing.proofs.Laws.{level_octets, or_else, first_join}

-- ── One field ───────────────────────────────────────────────────────────────────────────────────────────────────────

one_shown : (t : Bool) (place : ℕ) → cond t None (Some place) ≡ (unless t place)
one_shown true place = refl
one_shown false place = refl

-- a field that differs is not none
none_true : (t : Bool) (o : Option ℕ) (place : ℕ) → cond t o (Some place) ≡ None → (t ≡ true) × (o ≡ None)
none_true true o place e = (refl, e)
none_true false o place e = let z : ◌≡◌ {A = ℕ} 0 1 = cc in absurd (omega arith)

-- ── Fields of octets that are the same ──────────────────────────────────────────────────────────────────────────────

nth_same : (end : ℕ) (a : List ℕ) (i at : ℕ) (b : List ℕ) (j place : ℕ) (ws : List ℕ) (n : ℕ) (vs : List ℕ)
    → first_in end (octet_fields a i at (ws ++ (n ∷ vs))) (octet_fields b j place (ws ++ (n ∷ vs))) ≡ None
    → same_octets (part a (i + total ws) n) (part b (j + total ws) n) ≡ true
unfolding octet_fields first_in same_field
nth_same end a i at b j place [] n vs e = rw (add-zero i, add-zero j) (none_true (same_octets (part a i n) (part b j n)) _ place e).0
nth_same end a i at b j place (w ∷ ws) n vs e =
    rw (sym (add_assoc i w (total ws)), sym (add_assoc j w (total ws)))
    (nth_same end a (i + w) (at + w) b (j + w) (place + w) ws n vs (none_true (same_octets (part a i w) (part b j w)) _ place e).1)

-- two octets among them, as a number
pub nth_number : (end : ℕ) (a : List ℕ) (i at : ℕ) (b : List ℕ) (j place : ℕ) (ws vs : List ℕ)
    → first_in end (octet_fields a i at (ws ++ (2 ∷ vs))) (octet_fields b j place (ws ++ (2 ∷ vs))) ≡ None
    → u16_at a (i + total ws) ≡ u16_at b (j + total ws)
unfolding same_field
nth_number end a i at b j place ws vs e = u16_same a b (i + total ws) (j + total ws) (nth_same end a i at b j place ws 2 vs e)

-- ── The end of a TKEY's data ────────────────────────────────────────────────────────────────────────────────────────

module _ (c d : List ℕ) (from n base : ℕ) (same : length c ≡ length d) where
  pub end_cut : length c < from + n + 2 → (r : Option ℕ) → r ≡ unless (same_octets (drop from c) (drop from d)) (base + from)
      → (end i : ℕ) → first_in end (tkey_end i c from n) (tkey_end base d from n) ≡ r
  unfolding tkey_end first_in same_field
  end_cut h r e end i =
      let k : length d < from + n + 2 = omega arith in
      rw (e, lt-ltb (length c) (from + n + 2) h, lt-ltb (length d) (from + n + 2) k) (one_shown (same_octets (drop from c) (drop from d)) (base + from))

  module _ (h : from + n + 2 ≤ length c) where
    pub end_key : same_octets (part c from n) (part d from n) ≡ false → (end i : ℕ) → first_in end (tkey_end i c from n) (tkey_end base d from n) ≡ Some (base + from)
    unfolding tkey_end first_in same_field
    end_key f end i =
        let k : from + n + 2 ≤ length d = omega arith in
        rw (le-ltb (length c) (from + n + 2) h, le-ltb (length d) (from + n + 2) k, f) refl

    module _ (t : same_octets (part c from n) (part d from n) ≡ true) where
      pub end_size : same_octets (part c (from + n) 2) (part d (from + n) 2) ≡ false
          → (end i : ℕ) → first_in end (tkey_end i c from n) (tkey_end base d from n) ≡ Some (base + (from + n))
      unfolding tkey_end first_in same_field
      end_size f end i =
          let k : from + n + 2 ≤ length d = omega arith in
          rw (le-ltb (length c) (from + n + 2) h, le-ltb (length d) (from + n + 2) k, t, f) refl

      pub end_other : same_octets (part c (from + n) 2) (part d (from + n) 2) ≡ true
          → (r : Option ℕ) → r ≡ unless (same_octets (drop (from + n + 2) c) (drop (from + n + 2) d)) (base + (from + n + 2))
          → (end i : ℕ) → first_in end (tkey_end i c from n) (tkey_end base d from n) ≡ r
      unfolding tkey_end first_in same_field
      end_other u r e end i =
          let k : from + n + 2 ≤ length d = omega arith in
          rw (e, le-ltb (length c) (from + n + 2) h, le-ltb (length d) (from + n + 2) k, t, u) (one_shown (same_octets (drop (from + n + 2) c) (drop (from + n + 2) d)) (base + (from + n + 2)))

-- ── Its middle ──────────────────────────────────────────────────────────────────────────────────────────────────────

abbrev pub tkey_widths : List ℕ
tkey_widths = 4 ∷ 4 ∷ 2 ∷ 2 ∷ 2 ∷ []

middle_is : (base : ℕ) (c : List ℕ) (at : ℕ) → at + 14 ≤ length c → tkey_middle base c at ≡ octet_fields c at (base + at) tkey_widths ++ tkey_end base c (at + 14) (u16_at c (at + 12))
unfolding tkey_middle octet_fields
middle_is base c at h = rw (le-ltb (length c) (at + 14) h) (simp add_assoc)

module _ (c d : List ℕ) (at base : ℕ) (same : length c ≡ length d) where
  pub middle_cut : length c < at + 14 → (r : Option ℕ) → r ≡ unless (same_octets (drop at c) (drop at d)) (base + at)
      → (end i : ℕ) → first_in end (tkey_middle i c at) (tkey_middle base d at) ≡ r
  unfolding tkey_middle first_in same_field
  middle_cut h r e end i =
      let k : length d < at + 14 = omega arith in
      rw (e, lt-ltb (length c) (at + 14) h, lt-ltb (length d) (at + 14) k) (one_shown (same_octets (drop at c) (drop at d)) (base + at))

  module _ (h : at + 14 ≤ length c) (r : Option ℕ) (fixed : (end i : ℕ) → first_in end (octet_fields c at i tkey_widths) (octet_fields d at (base + at) tkey_widths) ≡ r) where
    joined : (end i : ℕ) → first_in end (tkey_middle i c at) (tkey_middle base d at)
        ≡ or_else (r) (first_in end (tkey_end i c (at + 14) (u16_at c (at + 12))) (tkey_end base d (at + 14) (u16_at d (at + 12))))
    joined end i =
        let k : at + 14 ≤ length d = omega arith in
        rw (middle_is i c at h, middle_is base d at k)
        (first_join end (octet_fields c at (i + at) tkey_widths) (octet_fields d at (base + at) tkey_widths) _ _ (level_octets c at (i + at) d at (base + at) tkey_widths)
        ∙ rw (fixed end (i + at)) refl)

    pub middle_differs : (place : ℕ) → r ≡ Some place → (end i : ℕ) → first_in end (tkey_middle i c at) (tkey_middle base d at) ≡ Some place
    middle_differs place e end i = joined end i ∙ rw e refl

    pub middle_on : r ≡ None → (n : ℕ) → n ≡ u16_at c (at + 12) → (s : Option ℕ)
        → ((end i : ℕ) → first_in end (tkey_end i c (at + 14) n) (tkey_end base d (at + 14) n) ≡ s)
        → (end i : ℕ) → first_in end (tkey_middle i c at) (tkey_middle base d at) ≡ s
    middle_on e n is s rest end i =
        let none_there : first_in 0 (octet_fields c at 0 tkey_widths) (octet_fields d at (base + at) tkey_widths) ≡ None = fixed 0 0 ∙ e in
        let u : u16_at c (at + 12) ≡ u16_at d (at + 12) = nth_number 0 c at 0 d at (base + at) (4 ∷ 4 ∷ 2 ∷ 2 ∷ []) [] none_there in
        joined end i ∙ rw (e, sym u, sym is) (rest end i)

-- ── The whole of it ─────────────────────────────────────────────────────────────────────────────────────────────────

pub plain_here : (c : List ℕ) → read_name c 0 ≡ read_plain c 0
unfolding read_name read_plain
plain_here c = refl

module _ (c d : List ℕ) (base : ℕ) where
  pub tkey_cut : (p q : ℕ) → read_plain c 0 ≡ stops p → read_plain d 0 ≡ stops q → (r : Option ℕ) → r ≡ unless (same_octets (drop 0 c) (drop 0 d)) (base + 0)
      → (end i : ℕ) → first_in end (tkey_fields i c (read_plain c 0)) (tkey_fields base d (read_plain d 0)) ≡ r
  unfolding first_in same_field
  tkey_cut p q f g r e end i = rw (f, g, e) (one_shown (same_octets (drop 0 c) (drop 0 d)) (base + 0))

  pub tkey_named_lem : (p : ℕ) (k : List ℕ) (q : ℕ) → read_plain c 0 ≡ stops p → read_plain d 0 ≡ reads k q
      → (end i : ℕ) → first_in end (tkey_fields i c (read_plain c 0)) (tkey_fields base d (read_plain d 0)) ≡ Some base
  unfolding first_in same_field
  tkey_named_lem p k q f g end i = rw (f, g) refl

  module _ (n : List ℕ) (p : ℕ) (f : read_plain c 0 ≡ reads n p) (t : Bool) (told : t ≡ same_read (read_name c 0) (read_name d 0)) where
    names : t ≡ same_read (reads n p) (read_plain d 0)
    names = rw (plain_here c, plain_here d, f) at told

    pub tkey_other_lem : t ≡ false → (end i : ℕ) → first_in end (tkey_fields i c (read_plain c 0)) (tkey_fields base d (read_plain d 0)) ≡ Some base
    unfolding first_in same_field
    tkey_other_lem e end i = rw f (go (read_plain d 0) (sym names ∙ e))
      where
        go : (s : Reading (List ℕ)) → same_read (reads n p) s ≡ false → first_in end (tkey_fields i c (reads n p)) (tkey_fields base d s) ≡ Some base
        go (stops q) e = rw (add-zero base) refl
        go (reads k q) e = rw e refl

    pub tkey_on : t ≡ true → (r : Option ℕ) → ((end i : ℕ) → first_in end (tkey_middle i c p) (tkey_middle base d p) ≡ r)
        → (end i : ℕ) → first_in end (tkey_fields i c (read_plain c 0)) (tkey_fields base d (read_plain d 0)) ≡ r
    unfolding first_in same_field
    tkey_on e r rest end i = rw f (go (read_plain d 0) refl (sym names ∙ e))
      where
        go : (s : Reading (List ℕ)) → read_plain d 0 ≡ s → same_read (reads n p) s ≡ true → first_in end (tkey_fields i c (reads n p)) (tkey_fields base d s) ≡ r
        go (stops q) g e = absurd (false≢true e)
        go (reads k q) g e =
            let same : q ≡ p = plain_next d k q g ∙ sym (same_length n k e) ∙ sym (plain_next c n p f) in
            rw (e, same) (rest end i)

-- ── A record's data ─────────────────────────────────────────────────────────────────────────────────────────────────

module _ (c d : List ℕ) (kind base : ℕ) (r : Option ℕ) where
  pub data_tkey : kind ≡ 249 → ((end i : ℕ) → first_in end (tkey_fields i c (read_plain c 0)) (tkey_fields base d (read_plain d 0)) ≡ r)
      → (end i : ℕ) → first_in end (data_fields kind i c) (data_fields kind base d) ≡ r
  unfolding data_fields tkey_type
  data_tkey k f end i = rw (eq-eqb kind 249 k) (f end i)

  pub data_whole : (kind ≡ 249 → ⊥) → r ≡ unless (same_octets (drop 0 c) (drop 0 d)) (base + 0)
      → (end i : ℕ) → first_in end (data_fields kind i c) (data_fields kind base d) ≡ r
  unfolding data_fields tkey_type first_in same_field
  data_whole k e end i = rw (e, ne_eqb kind 249 k, add-zero base) (one_shown (same_octets c d) base)

-- where the records' data stand
pub data_standing : (a b : List ℕ) (p q kind n : ℕ) (c d : List ℕ) (r : Option ℕ) → kind ≡ u16_at a p → n ≡ u16_at a (p + 8) → u16_at a (p + 8) ≡ u16_at b (q + 8)
    → c ≡ part a (p + 10) n → d ≡ part b (q + 10) n
    → ((end i : ℕ) → first_in end (data_fields kind i c) (data_fields kind (q + 10) d) ≡ r)
    → (end : ℕ)
    → first_in end (data_fields (u16_at a p) (p + 10) (part a (p + 10) (u16_at a (p + 8)))) (data_fields (u16_at a p) (q + 10) (part b (q + 10) (u16_at b (q + 8)))) ≡ r
data_standing a b p q kind n c d r k s same e f g end = rw (sym same, sym s, sym k, sym e, sym f) (g end (p + 10))
