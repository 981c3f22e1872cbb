-- How loading and mending end: one law for each end. Assumes nothing.
use Prim.Native.Nat.{ℕ, ◌/◌, ◌≤◌, ◌<◌}
use mathlib.Core.Bool.{Bool, true, false, false≢true}
use mathlib.Core.Path.{◌≡◌, refl, sym, ap, ap₂, ◌∙◌, subst}
use Rattle.std.specs.Prelude.{Option, None, Some, Result, Ok, Err}
use Rattle.std.specs.Result.{is_ok}
use mathlib.Core.List.{List, [], ◌∷◌}
use native.Mathlib.Omega.{arith}
use lib.Dec.{eqb}
use lib.ListN.{length, take, drop}
use borrow.Author.Tests.{eq-eqb, ne_eqb, le-leb, lt-leb}
use Rattle.model.specs.declared.Clocked.{Clocked}
use Rattle.model.specs.Octets.{put}
use Rattle.model.specs.Tables.{Table}
use Rattle.model.specs.Calls.{DONE, TABLE, ROOM, LINE}
use Rattle.model.specs.Lines.{lines_of, read_clock}
use Rattle.model.specs.Loading.{unread_from, first_unread, no_table, loaded, load, load_number, load_line, Dropped, Mended, no_clock, no_rule, no_room, mended, mend, mended_in, mend_number, mend_line}
use Rattle.model.proofs.Forward.{loaded_from, load_by_mend}
use Rattle.model.proofs.Mends.{whole_loads}
use Rattle.model.proofs.Tests.{and_false}
use Rattle.octets.proofs.Laws.{wrote_put}
use Rattle.store.specs.Layout.{table_of}
use Rattle.lines.specs.Read.{LineEnds}
use Rattle.loading.specs.declared.Ended.{Ended}
use Rattle.loading.specs.declared.Mending.{Mending}
use Rattle.loading.specs.declared.Refusal.{Refusal}
use Rattle.loading.specs.declared.Refusal.TheVariants as refusal
use Rattle.loading.specs.Walk.{named_words, Reads}
use Rattle.loading.specs.Loads.{lends, load_into, end_of, table_after, Loads, Kept, Counted, refused_with, mend_into, dropped_by, table_mended, mends_as, mend_end, Mends}
use Rattle.loading.proofs.Laws.{first_line, no_octets}

-- ── The first line that does not read ───────────────────────────────────────────────────────────────────────────────

pub unread_empty : (text : List ℕ) → length text ≡ 0 → first_unread (lines_of text) ≡ Some 1
unfolding first_unread lines_of
unread_empty text h = ap (λ (x : List ℕ). first_unread (lines_of x)) (no_octets text h)

module _ (text : List ℕ) (end : ℕ) (l : LineEnds text 0 end) (r : Option Clocked) (is : r ≡ read_clock (take end text)) where
  pub unread_first : r ≡ None → first_unread (lines_of text) ≡ Some 1
  unfolding first_unread
  unread_first e = ap first_unread (first_line text end l) ∙ rw (sym is ∙ e) refl

  pub unread_later : (c : Clocked) → r ≡ Some c → first_unread (lines_of text) ≡ unread_from true 2 (lines_of (drop end text))
  unfolding first_unread
  unread_later c e = ap first_unread (first_line text end l) ∙ rw (sym is ∙ e) refl

-- ── Loading ─────────────────────────────────────────────────────────────────────────────────────────────────────────

pub refused_table : ◌≡◌ {A = Ended} (record { number = 1; line = 0 }) (end_of (loaded_from None no_rule))
unfolding load_number load_line TABLE
refused_table = refl

pub refused_line : (n : ℕ) → ◌≡◌ {A = Ended} (record { number = 18; line = n }) (end_of (loaded_from (Some n) no_rule))
unfolding load_number load_line LINE
refused_line n = refl

-- Lent words and octets of a table's lengths, or of others.
module _ (w s : List ℕ) where
  pub lends_both : length w ≡ 1091 → length s ≡ 8192 → lends w s ≡ true
  lends_both e f = rw (eq-eqb _ _ e, eq-eqb _ _ f) refl

  pub lends_no_words : ¬ (length w ≡ 1091) → lends w s ≡ false
  lends_no_words e = rw (ne_eqb _ _ e) refl

  pub lends_no_octets : ¬ (length s ≡ 8192) → lends w s ≡ false
  lends_no_octets e = and_false (eqb (length w) 1091) (ne_eqb _ _ e)

module _ (w s words suffixes : List ℕ) where
  pub kept_not : lends words suffixes ≡ false → Kept w s words suffixes words suffixes 1
  unfolding TABLE
  kept_not e = record { fits = λ f. absurd (false≢true (sym e ∙ f)); misfits = λ _. (refl, refl, refl) }

  pub kept_both :
      length words ≡ 1091 → length suffixes ≡ 8192 → {words' suffixes' : List ℕ} → words' ≡ w → suffixes' ≡ s
      → Kept w s words suffixes words' suffixes' 0
  unfolding DONE
  kept_both e f is v = record {
    fits = λ _. (refl, is, v);
    misfits = λ x. absurd (false≢true (sym x ∙ lends_both words suffixes e f));
  }

-- What was read and what was refused are two things, and a count is one number.
pub not_both : {r : Result ℕ Refusal} {n : ℕ} {x : Refusal} → r ≡ Ok n → r ≡ Err x → ⊥
not_both e f = false≢true (sym (ap is_ok f) ∙ ap is_ok e)

is_line : Result ℕ Refusal → Bool
is_line (Err refusal.Line) = true
is_line (Err refusal.Table) = false
is_line (Ok n) = false

other_refusal : {r : Result ℕ Refusal} → r ≡ Err refusal.Line → r ≡ Err refusal.Table → ⊥
unfolding is_line
other_refusal e f = false≢true (sym (ap is_line f) ∙ ap is_line e)

count_of : Result ℕ Refusal → ℕ
count_of (Ok n) = n
count_of (Err x) = 0

pub same_count : {r : Result ℕ Refusal} {n m : ℕ} → r ≡ Ok n → r ≡ Ok m → n ≡ m
unfolding count_of
same_count e f = ap count_of (sym e ∙ f)

-- What does not load whole.
not_loaded : (b : Bool) (n : Option ℕ) → load_into b (loaded_from n no_rule) ≡ loaded_from n no_rule
not_loaded true n = refl
not_loaded false None = refl
not_loaded false (Some n) = refl

left_alone : (t : Table) (n : Option ℕ) → table_after t (loaded_from n no_rule) ≡ t
left_alone t None = refl
left_alone t (Some n) = refl

whole_fits :
    (text w s words suffixes : List ℕ) (t : Table) → load_into (lends words suffixes) (load text) ≡ loaded t → table_of w s ≡ t
    → {words' suffixes' : List ℕ} {n : ℕ} → (n ≡ DONE) × (words' ≡ w) × (suffixes' ≡ s) → Loads text words suffixes words' suffixes' (record { number = n; line = 0 })
unfolding load_number load_line
whole_fits text w s words suffixes t is shows k = record {
  says = ap (λ (n : ℕ). record { number = n; line = 0 }) k.0 ∙ ap end_of (sym is);
  table = ap₂ table_of k.1 k.2 ∙ shows ∙ ap (table_after (table_of words suffixes)) (sym is);
  refused = λ h. absurd (h k.0);
}

whole_misfits :
    (text words suffixes : List ℕ) (t : Table) → load_into (lends words suffixes) (load text) ≡ no_table
    → {words' suffixes' : List ℕ} {n : ℕ} → (n ≡ TABLE) × (words' ≡ words) × (suffixes' ≡ suffixes) → Loads text words suffixes words' suffixes' (record { number = n; line = 0 })
unfolding load_number load_line
whole_misfits text words suffixes t is k = record {
  says = ap (λ (n : ℕ). record { number = n; line = 0 }) k.0 ∙ ap end_of (sym is);
  table = ap₂ table_of k.1 k.2 ∙ ap (table_after (table_of words suffixes)) (sym is);
  refused = λ _. (k.1, k.2);
}

module _ (text w s words suffixes none' : List ℕ) (r : Result ℕ Refusal) (read : Reads (mend text) w s (0 ∷ []) none' r) where
  load_not : ((t : Table) → ¬ (mend text ≡ mended t [])) → load text ≡ loaded_from (first_unread (lines_of text)) no_rule
  load_not h = load_by_mend text ∙ go (mend text) refl (first_unread (lines_of text))
    where
      go : (m : Mended) → mend text ≡ m → (n : Option ℕ) → loaded_from n m ≡ loaded_from n no_rule
      go m e (Some n) = refl
      go no_clock e None = refl
      go no_rule e None = refl
      go no_room e None = refl
      go (mended t []) e None = absurd (h t e)
      go (mended t (d ∷ ds)) e None = refl

  refused_as : ((t : Table) → ¬ (mend text ≡ mended t [])) → {a : Ended} → a ≡ end_of (loaded_from (first_unread (lines_of text)) no_rule) → Loads text words suffixes words suffixes a
  refused_as h {a} e =
      let is = ap (load_into (lends words suffixes)) (load_not h) ∙ not_loaded (lends words suffixes) (first_unread (lines_of text)) in
      record {
        says = e ∙ ap end_of (sym is);
        table = sym (ap (table_after (table_of words suffixes)) is ∙ left_alone (table_of words suffixes) (first_unread (lines_of text)));
        refused = λ _. (refl, refl);
      }

  pub load_not_whole : ¬ (r ≡ Ok 0) → {a : Ended} → a ≡ end_of (loaded_from (first_unread (lines_of text)) no_rule) → Loads text words suffixes words suffixes a
  load_not_whole h = refused_as (λ t e. h (subst (λ (m : Mended). Reads m w s (0 ∷ []) none' r) e read).1)

  is_whole : r ≡ Ok 0 → (t : Table) × (mend text ≡ mended t []) × (table_of w s ≡ t)
  is_whole e = go (mend text) refl read
    where
      go : (m : Mended) → mend text ≡ m → Reads m w s (0 ∷ []) none' r → (t : Table) × (mend text ≡ mended t []) × (table_of w s ≡ t)
      go no_clock x y = absurd (not_both e y)
      go no_rule x y = absurd (not_both e y)
      go no_room x y = absurd y
      go (mended t []) x y = (t, x, y.0)
      go (mended t (d ∷ ds)) x y = absurd (omega (arith, same_count e y.1))

  pub load_whole : r ≡ Ok 0 → {words' suffixes' : List ℕ} {n : ℕ} → Kept w s words suffixes words' suffixes' n → Loads text words suffixes words' suffixes' (record { number = n; line = 0 })
  load_whole e {words'} {suffixes'} {n} k = go (lends words suffixes) refl
    where
      x : (t : Table) × (mend text ≡ mended t []) × (table_of w s ≡ t)
      x = is_whole e

      is : load text ≡ loaded x.0
      is = whole_loads text x.0 x.1

      into : (b : Bool) → lends words suffixes ≡ b → load_into (lends words suffixes) (load text) ≡ load_into b (loaded x.0)
      into b c = ap₂ load_into c is

      go : (b : Bool) → lends words suffixes ≡ b → Loads text words suffixes words' suffixes' (record { number = n; line = 0 })
      go true c = whole_fits text w s words suffixes x.0 (into true c) x.2 (k.fits c)
      go false c = whole_misfits text words suffixes x.0 (into false c) (k.misfits c)

-- ── Mending ─────────────────────────────────────────────────────────────────────────────────────────────────────────

pub counted : (m : Mended) (w s named named' : List ℕ) (r : Result ℕ Refusal) → Reads m w s named named' r → Counted m r
counted no_clock w s named named' r x = x
counted no_rule w s named named' r x = x
counted no_room w s named named' r x = x
counted (mended t ds) w s named named' r x = x.1

-- A refusal, by what mending ends as.
mend_refused_as :
    (text w s named : List ℕ) (m : Mended) → mends_as text w s named ≡ m → table_mended (table_of w s) m ≡ table_of w s → dropped_by m ≡ [] → {a : Mending} → a ≡ mend_end m
    → Mends text w s named w s named a
unfolding put named_words
mend_refused_as text w s named m e t d f = record {
  says = f ∙ ap mend_end (sym e);
  table = sym (ap (table_mended (table_of w s)) e ∙ t);
  names = sym (ap (λ (m : Mended). put (named_words (dropped_by m)) named) e ∙ ap (λ (ds : List Dropped). put (named_words ds) named) d);
  refused = λ _. (refl, refl);
}

no_clock_end : (room : ℕ) (b : Bool) → mended_in room (mend_into b no_clock) ≡ no_clock
no_clock_end room true = refl
no_clock_end room false = refl

no_rule_end : (room : ℕ) (b : Bool) → mended_in room (mend_into b no_rule) ≡ no_rule
no_rule_end room true = refl
no_rule_end room false = refl

module _ (text w s named : List ℕ) (r : Result ℕ Refusal) (is : Counted (mend text) r) where
  abbrev room : ℕ
  room = length named / 2

  pub mend_line_lem : r ≡ Err refusal.Line → {a : Mending} → a ≡ refused_with 18 → Mends text w s named w s named a
  unfolding mend_number mend_line LINE
  mend_line_lem h {a} f = go (mend text) refl is
    where
      go : (m : Mended) → mend text ≡ m → Counted m r → Mends text w s named w s named a
      go no_clock e x = mend_refused_as text w s named no_clock (ap (λ (m : Mended). mended_in room (mend_into (lends w s) m)) e ∙ no_clock_end room (lends w s)) refl refl f
      go no_rule e x = absurd (other_refusal h x)
      go no_room e x = absurd x
      go (mended t ds) e x = absurd (not_both x h)

  pub mend_table_lem : r ≡ Err refusal.Table → {a : Mending} → a ≡ refused_with 1 → Mends text w s named w s named a
  unfolding mend_number mend_line TABLE LINE
  mend_table_lem h {a} f = go (mend text) refl is
    where
      go : (m : Mended) → mend text ≡ m → Counted m r → Mends text w s named w s named a
      go no_clock e x = absurd (other_refusal x h)
      go no_rule e x = mend_refused_as text w s named no_rule (ap (λ (m : Mended). mended_in room (mend_into (lends w s) m)) e ∙ no_rule_end room (lends w s)) refl refl f
      go no_room e x = absurd x
      go (mended t ds) e x = absurd (not_both x h)

  -- What mending drops, where it is not refused.
  mend_done : (n : ℕ) → r ≡ Ok n → (t : Table) × (ds : List Dropped) × (mend text ≡ mended t ds) × (n ≡ length ds)
  mend_done n e = go (mend text) refl is
    where
      go : (m : Mended) → mend text ≡ m → Counted m r → (t : Table) × (ds : List Dropped) × (mend text ≡ mended t ds) × (n ≡ length ds)
      go no_clock x y = absurd (not_both e y)
      go no_rule x y = absurd (not_both e y)
      go no_room x y = absurd y
      go (mended t ds) x y = (t, ds, x, same_count e y)

  module _ (n : ℕ) (done : r ≡ Ok n) where
    abbrev kept : (t : Table) × (ds : List Dropped) × (mend text ≡ mended t ds) × (n ≡ length ds)
    kept = mend_done n done

    pub mend_misfits : lends w s ≡ false → {a : Mending} → a ≡ refused_with 1 → Mends text w s named w s named a
    unfolding mend_number mend_line LINE TABLE
    mend_misfits e f = mend_refused_as text w s named no_rule (ap₂ (λ (b : Bool) (m : Mended). mended_in room (mend_into b m)) e kept.2) refl refl f

    module _ (fits : lends w s ≡ true) where
      ends : mends_as text w s named ≡ mended_in room (mended kept.0 kept.1)
      ends = ap₂ (λ (b : Bool) (m : Mended). mended_in room (mend_into b m)) fits kept.2

      pub mend_short : room < n → {a : Mending} → a ≡ refused_with 8 → Mends text w s named w s named a
      unfolding mend_number mend_line LINE ROOM
      mend_short h f = mend_refused_as text w s named no_room (ends ∙ rw (lt-leb (length kept.1) room (omega (arith, h, kept.3))) refl) refl refl f

      pub mend_whole :
          n ≤ room → {w' s' named' : List ℕ} (q : Result ℕ Refusal) → Reads (mend text) w' s' named named' q
          → Mends text w s named w' s' named' (record { number = 0; line = 0; dropped = n })
      unfolding mend_number mend_line DONE
      mend_whole h {w'} {s'} {named'} q x =
          let few = kept.3 in
          let m : mends_as text w s named ≡ mended kept.0 kept.1 = ends ∙ rw (le-leb (length kept.1) room (omega (arith, h, few))) refl in
          let y = subst (λ (m : Mended). Reads m w' s' named named' q) kept.2 x in
          let v = y.2.wrote (omega (arith, h, few)) in
          record {
            says = ap (λ (k : ℕ). record { number = 0; line = 0; dropped = k }) few ∙ ap mend_end (sym m);
            table = y.0 ∙ ap (table_mended (table_of w s)) (sym m);
            names = (wrote_put v).1 ∙ ap (λ (m : Mended). put (named_words (dropped_by m)) named) (sym m);
            refused = λ g. absurd (g refl);
          }
