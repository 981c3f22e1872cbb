-- Laws of the first refusals as the code makes them, of a lent table that passes them, and of the ends of a call. Assumes nothing.
use Prim.Native.Nat.{ℕ, zero, suc, ◌+◌, ◌-◌, ◌≤◌, ◌<◌}
use mathlib.Core.Path.{◌≡◌, refl, sym, ap, ◌∙◌}
use mathlib.Core.Bool.{Bool, true, false}
use Rattle.std.specs.Prelude.{Option, None, Some, Result as Either, Err}
use mathlib.Core.List.{List, [], ◌∷◌}
use native.Mathlib.Omega.{arith}
use lib.ListN.{length, get_or, set, drop, length-take}
use lib.Seq.{get_or-drop}
use borrow.Author.Tests.{lt-ltb, le-ltb, le-leb, lt-leb}
use Rattle.model.specs.declared.Answer.{Answer}
use Rattle.model.specs.declared.Pair.{Pair}
use Rattle.model.specs.Octets.{part}
use Rattle.model.specs.Tables.{Row, Table, row_at, suffix_at, pair_at, with_clock, serial_rule, pair_rule, table_rules}
use Rattle.model.specs.Calls.{DONE, TABLE, TIME, CLOCK, Result, refusal_at, refusal, done, unchanged, time_fits, time_goes_on, gate, clock_at, Call, time_of, served, called}
use Rattle.model.proofs.Tests.{differs}
use Rattle.model.proofs.Rows.{tests, every_member, at_member}
use Rattle.model.proofs.CallLaws.{refused_first, passes_first}
use Rattle.store.proofs.Codec.{kept}
use Rattle.store.specs.Layout.{clock_of, count_of, place_of, length_in, pair_in, suffix_in, laid_table, layout_rule, table_of}
use Rattle.store.specs.Stored.{ClockSet, PairStored}
use Rattle.store.proofs.Laid.{laid, shown as shown-laid}
use Rattle.store.proofs.Storing.{row_of, rows_length}
use Rattle.ruling.proofs.Laws.{broken_layout}
use Rattle.results.specs.declared.Refusal.{Refusal}
use Rattle.results.specs.Numbers.{number_of}
use Rattle.results.specs.declared.Refusal.TheVariants.{Table as NoTable, Time, Clock, Size, Offer, Format, NotQuery, Room, NoPair, NoKey, Spent, Name, Term, Twin, Full, KeyRec}
use Rattle.outcomes.specs.Gate.{refusal_of, number_in, First, Open, Entered}
use Rattle.outcomes.specs.Ends.{shown, Served, Own, Rest, Settled}

-- ── A store, as it is shown ─────────────────────────────────────────────────────────────────────────────────────────

laid_short : (w s : List ℕ) (q : ℕ) → length (suffix_in w s q) ≤ length_in w q
unfolding suffix_in part
laid_short w s q = simp length-take (omega arith)

module _ (w s : List ℕ) where
  pub rules_layout : table_rules (table_of w s) ≡ true → layout_rule w s ≡ true
  rules_layout r = go (layout_rule w s) refl
    where
      go : (b : Bool) → layout_rule w s ≡ b → b ≡ true
      go true e = refl
      go false e = absurd (differs _ (broken_layout w s e) r)

  module _ (ok : layout_rule w s ≡ true) where
    pub shown_clock : (table_of w s).clock ≡ clock_of w
    unfolding laid_table
    shown_clock = ap (λ (t : Table). t.clock) (shown-laid w s ok)

    pub shown_count : length (table_of w s).rows ≡ count_of w
    shown_count = ap (λ (t : Table). length t.rows) (shown-laid w s ok) ∙ rows_length w s

    pub shown_words : length w ≡ 1091
    shown_words = (laid w s ok).words

    module _ (row : ℕ) (h : row < length (table_of w s).rows) where
      pub row_low : row < count_of w
      row_low = omega (arith, shown_count)

      pub row_few : row < 64
      row_few = omega (arith, row_low, (laid w s ok).few)

      pub place_few : place_of w row < 64
      place_few = omega (arith, (laid w s ok).few, ((laid w s ok).at row row_low).lands)

      pub shown_pair : pair_at (table_of w s) row ≡ pair_in w (place_of w row)
      unfolding pair_at
      shown_pair = ap (λ (t : Table). pair_at t row) (shown-laid w s ok) ∙ ap (λ (r : Row). r.pair) (row_of w s row row_low)

      pub shown_suffix : suffix_at (table_of w s) row ≡ suffix_in w s (place_of w row)
      unfolding suffix_at
      shown_suffix = ap (λ (t : Table). suffix_at t row) (shown-laid w s ok) ∙ ap (λ (r : Row). r.suffix) (row_of w s row row_low)

      pub suffix_short : length (suffix_at (table_of w s) row) ≤ 128
      suffix_short = rw shown_suffix (omega (arith, ((laid w s ok).at (place_of w row) ((laid w s ok).at row row_low).lands).short, laid_short w s (place_of w row)))

-- ── The gate ────────────────────────────────────────────────────────────────────────────────────────────────────────

module _ (t : Table) (time : ℕ) (b : Bool) (is : b ≡ table_rules t) where
  pub gate_table : b ≡ false → gate t (Some time) ≡ Some 1
  unfolding gate TABLE
  gate_table e = rw (sym is ∙ e) refl

  module _ (kept : b ≡ true) where
    pub gate_time : 0xffff_8000_0000 ≤ time → gate t (Some time) ≡ Some 2
    unfolding gate TIME time_fits
    gate_time h = rw (sym is ∙ kept, le-ltb time 0xffff_8000_0000 h) refl

    module _ (fits : time < 0xffff_8000_0000) where
      pub gate_clock : time < t.clock → gate t (Some time) ≡ Some 3
      unfolding gate CLOCK time_fits time_goes_on
      gate_clock h = rw (sym is ∙ kept, lt-ltb time 0xffff_8000_0000 fits, lt-leb t.clock time h) refl

      pub gate_open : t.clock ≤ time → gate t (Some time) ≡ None
      unfolding gate time_fits time_goes_on
      gate_open h = rw (sym is ∙ kept, lt-ltb time 0xffff_8000_0000 fits, le-leb t.clock time h) refl

-- as the code tests it: the clock is a word
module _ (w s : List ℕ) (time : ℕ) (b : Bool) (is : b ≡ table_rules (table_of w s)) where
  pub first_table : b ≡ false → First w s time 1
  first_table e = record { says = gate_table (table_of w s) time b is e; layout = λ z. absurd (omega arith); rules = λ z. absurd (omega arith); fits = λ z. absurd (omega arith) }

  module _ (kept : b ≡ true) where
    its_layout : layout_rule w s ≡ true
    its_layout = rules_layout w s (sym is ∙ kept)

    pub its_words : length w ≡ 1091
    its_words = shown_words w s its_layout

    pub first_time : 0xffff_8000_0000 ≤ time → First w s time 2
    first_time h = record { says = gate_time (table_of w s) time b is kept h; layout = λ z. absurd (omega arith); rules = λ z. absurd (omega arith); fits = λ z. absurd (omega arith) }

    module _ (early : time < 0xffff_8000_0000) where
      pub first_clock : time < clock_of w → First w s time 3
      first_clock h = record { says = gate_clock (table_of w s) time b is kept early (omega (arith, shown_clock w s its_layout)); layout = λ z. absurd (omega arith); rules = λ z. absurd (omega arith); fits = λ z. absurd (omega arith) }

      pub first_none : clock_of w ≤ time → First w s time 0
      unfolding time_fits
      first_none h = record {
        says = gate_open (table_of w s) time b is kept early (omega (arith, shown_clock w s its_layout));
        layout = λ z. its_layout;
        rules = λ z. sym is ∙ kept;
        fits = λ z. lt-ltb time 0xffff_8000_0000 early;
      }

-- what it leaves
pub clock_alone : (w : List ℕ) (time : ℕ) → drop 1 (set w 0 time) ≡ drop 1 w
clock_alone [] time = refl
clock_alone (x ∷ w) time = refl

module _ (w s : List ℕ) (time n : ℕ) (f : First w s time n) where
  pub enter_refused : (n ≡ 0 → ⊥) → Entered w s time w n
  enter_refused z = record { says = f.says; refused = λ _. refl; words = refl; table = λ e. absurd (z e); passed = λ e. absurd (z e) }

  module _ (e : n ≡ 0) {w' : List ℕ} (c : ClockSet time w w') where
    its_table : table_of w' s ≡ with_clock (table_of w s) time
    its_table = c.table s (f.layout e)

    opened : Open w' s time
    unfolding with_clock pair_at row_at
    opened = record {
      layout = c.layout s (f.layout e);
      clock = ap (λ (t : Table). t.clock) its_table;
      fits = f.fits e;
      floor = ap (λ (t : Table). serial_rule t.floor) its_table ∙ (tests (table_of w s) (f.rules e)).1.1.1.1.1.0;
      tested = (table_of w s).clock;
      rule = λ i h.
          let r = ap (λ (t : Table). t.rows) its_table in
          let k : i < length (table_of w s).rows = rw r at h in
          ap (λ (t : Table). pair_rule (table_of w s).clock (pair_at t i)) its_table
          ∙ every_member (λ r. pair_rule (table_of w s).clock r.pair) (table_of w s).rows (tests (table_of w s) (f.rules e)).1.1.1.1.0 (at_member (table_of w s).rows i _ k);
    }

    pub enter_passed : Entered w s time w' 0
    enter_passed = record {
      says = f.says ∙ ap refusal_of e;
      refused = λ z. absurd (z refl);
      words = ap (drop 1) c.words ∙ clock_alone w time;
      table = λ _. its_table;
      passed = λ _. opened;
    }

pub some_refusal : (n : ℕ) → (n ≡ 0 → ⊥) → refusal_of n ≡ Some n
some_refusal zero z = absurd (z refl)
some_refusal (suc n) z = refl

module _ {A : Type 0} {r : Either A Refusal} {x : Refusal} (is : r ≡ Err x) where
  pub refused_number : number_in r ≡ 0 → ⊥
  refused_number z = go x (sym (ap number_in is) ∙ z)
    where
      go : (x : Refusal) → number_of x ≡ 0 → ⊥
      go NoTable e = omega arith
      go Time e = omega arith
      go Clock e = omega arith
      go Size e = omega arith
      go Offer e = omega arith
      go Format e = omega arith
      go NotQuery e = omega arith
      go Room e = omega arith
      go NoPair e = omega arith
      go NoKey e = omega arith
      go Spent e = omega arith
      go Name e = omega arith
      go Term e = omega arith
      go Twin e = omega arith
      go Full e = omega arith
      go KeyRec e = omega arith

  pub refused_answer : {a : Answer} → a ≡ (refusal (number_of x)).answer → a ≡ (refusal (number_in r)).answer
  refused_answer e = e ∙ ap (λ (n : ℕ). (refusal n).answer) (sym (ap number_in is))

-- ── The ends of a call ──────────────────────────────────────────────────────────────────────────────────────────────

module _ (call : Table → Result) (w s : List ℕ) {a : Answer} where
  -- refused by the rest of the call
  pub rest_refused : (n : ℕ) → 1 < n → a ≡ (refusal n).answer → call (table_of w s) ≡ unchanged (table_of w s) n → Rest call w s w s a
  unfolding unchanged refusal refusal_at TABLE
  rest_refused n h e is =
      record {
        says = ap (shown w s) e ∙ sym is;
        refused = λ _. (refl, refl);
        passed = λ q. let m : a.number ≡ n = ap (λ (x : Answer). x.number) e in omega arith;
      }

  -- done
  pub rest_done : (w' s' : List ℕ) {t : Table} (pair serial : ℕ) → shown w' s' a ≡ record { table = t; outcome = done pair serial } → call (table_of w s) ≡ record { table = t; outcome = done pair serial } → Rest call w s w' s' a
  unfolding done DONE TABLE
  rest_done w' s' pair serial e is =
      let m : a.number ≡ 0 = ap (λ (x : Result). x.outcome.answer.number) e in
      record { says = e ∙ sym is; refused = λ z. absurd (z m); passed = λ q. omega arith }

-- The whole call, of which `after` is the rest.
module _ (call : Table → Result) (w s : List ℕ) (time : ℕ) (w₁ : List ℕ) (n : ℕ) (e : Entered w s time w₁ n) where
  pub serve_refused : (n ≡ 0 → ⊥) → {a : Answer} → a ≡ (refusal n).answer → call (table_of w s) ≡ unchanged (table_of w s) n → Served call w s w₁ s a
  unfolding unchanged refusal refusal_at
  serve_refused z q is =
      let same : w₁ ≡ w = e.refused z in
      record { says = rw (same, q) (sym is); table = λ _. (same, refl); refused = λ _. (e.words, refl) }

  pub serve_rest : (after : Table → Result) → n ≡ 0 → {w' s' : List ℕ} {a : Answer} → Rest after w₁ s w' s' a → call (table_of w s) ≡ after (with_clock (table_of w s) time) → Served call w s w' s' a
  serve_rest after z r is =
      record {
        says = r.says ∙ ap after (e.table z) ∙ sym is;
        table = λ q. absurd (r.passed q);
        refused = λ q. let k = r.refused q in (ap (drop 1) k.0 ∙ e.words, k.1);
      }

-- of a call on one pair
module _ (t : Table) (time n : ℕ) (says : gate t (Some time) ≡ refusal_of n) (c : Call) (timed : time_of c ≡ Some time) where
  pub call_refused : (n ≡ 0 → ⊥) → called t c ≡ unchanged t n
  call_refused z = refused_first t c n (ap (gate t) timed ∙ says ∙ some_refusal n z)

  pub call_passed : n ≡ 0 → called t c ≡ served (with_clock t time) c
  call_passed e = passes_first t c (ap (gate t) timed ∙ says ∙ ap refusal_of e) ∙ ap (λ (o : Option ℕ). served (clock_at t o) c) timed

-- ── A row ───────────────────────────────────────────────────────────────────────────────────────────────────────────

pub settles :
    (w s : List ℕ) (ok : layout_rule w s ≡ true) (row : ℕ) → row < length (table_of w s).rows
    → {q : ℕ} → q ≡ place_of w row
    → (p : Pair) {w' : List ℕ} → PairStored q p w w'
    → (serial : ℕ) {a : Answer} → a ≡ (done (row + 1) serial).answer
    → Settled row p serial w s w' a
unfolding done
settles w s ok row h {q} q-is p {w'} st serial e = record {
  says = rw (st.table s row ok (row_low w s ok row h) (sym q-is), e) refl;
  words = rw q-is at st.words;
  layout = st.layout s ok;
}

-- ── The words of a call on one pair ─────────────────────────────────────────────────────────────────────────────────

pub own_none : (row : ℕ) (w : List ℕ) → Own row w w
own_none row w = record { kept = λ i h side. refl }

pub own_settled : {row : ℕ} {p : Pair} {serial : ℕ} {w s w' : List ℕ} {a : Answer} → Settled row p serial w s w' a → Own row w w'
own_settled st = record { kept = λ i h side. kept st.words i side }

-- the words but the clock's are as they were
pub after_clock : (v w : List ℕ) → drop 1 v ≡ drop 1 w → (i : ℕ) → 0 < i → get_or v i 0 ≡ get_or w i 0
after_clock v w e i h =
    let n : 1 + (i - 1) ≡ i = omega arith in
    let d = rw n at (get_or-drop 1 v (i - 1) 0) in
    let f = rw n at (get_or-drop 1 w (i - 1) 0) in
    sym d ∙ ap (λ (l : List ℕ). get_or l (i - 1) 0) e ∙ f

pub own_whole : (row : ℕ) (w s : List ℕ) (time : ℕ) (w₁ : List ℕ) (n : ℕ) → Entered w s time w₁ n → {w' : List ℕ} → Own row w₁ w' → Own row w w'
own_whole row w s time w₁ n e o = record {
  kept = λ i h side.
      let same : place_of w₁ row ≡ place_of w row = after_clock w₁ w e.words (3 + row) (omega arith) in
      o.kept i h (rw same side) ∙ after_clock w₁ w e.words i h;
}
