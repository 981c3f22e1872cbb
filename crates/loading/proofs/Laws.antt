-- One law for each end of each function. Assumes nothing.
use Prim.Native.Nat.{ℕ, zero, suc, ◌+◌, ◌-◌, ◌*◌, ◌/◌, ◌≤◌}
use mathlib.Core.Bool.{Bool, true, false, ◌&&◌, false≢true}
use mathlib.Core.Path.{◌≡◌, refl, sym, ap, ap₂, ◌∙◌, subst}
use Rattle.std.specs.Prelude.{Option, None, Some, Result, Ok, Err}
use mathlib.Core.List.{List, [], ◌∷◌, ◌++◌, append_assoc}
use lib.Dec.{eqb}
use borrow.Author.Tests.{ne_eqb}
use native.Mathlib.Numerals.{add-one}
use native.Mathlib.Omega.{arith}
use lib.ListN.{length, take, drop, length-append, drop_of_length-le}
use lib.Seq.{length-take-le}
use Rattle.model.specs.declared.Pair.{Pair}
use Rattle.model.specs.Tables.{Table, Row}
use Rattle.model.specs.Calls.{with_row}
use Rattle.model.specs.declared.Clocked.{Clocked}
use Rattle.model.specs.declared.Stated.{Stated}
use Rattle.model.specs.Lines.{lines_of, is_key_line, read_clock, read_key, read_pair}
use Rattle.model.specs.Loading.{blocks_of, reads_as, unread_or, unread_from, Entry, unread, Judged, keeps, drops, Dropped, dropped_from, Kept, dropping, clocked_rule, Mended, mended_with, mended_by, mend_lines, mend}
use Rattle.model.specs.Text.{line_of}
use Rattle.model.specs.Listing.{tabbed, clock_line}
use Rattle.model.proofs.LineLaws.{clock_is}
use Rattle.model.proofs.Forward.{entry_added, entry_begun}
use Rattle.octets.specs.Wrote.{Wrote}
use Rattle.octets.proofs.Laws.{from_start, then, wrote_as, wrote_length}
use Rattle.octets.proofs.Back.{wrote_none}
use Rattle.store.specs.Stored.{Cleared}
use Rattle.store.specs.Layout.{clock_of, floor_of, laid_table, layout_rule, table_of}
use Rattle.store.proofs.Laid.{shown}
use Rattle.outcomes.proofs.Laws.{shown_clock}
use Rattle.inserting.specs.Insert.{Ready, Inserted}
use Rattle.lines.specs.Read.{LineEnds, PairRead}
use Rattle.entries.specs.declared.Open.{Open}
use Rattle.entries.specs.declared.Open.TheVariants.{Unread}
use Rattle.entries.specs.declared.Kept as entries
use Rattle.entries.specs.Entries.{entry_shown, open_size, KeyAdded, Begun, judged_shown, Insertable, EntryJudged}
use Rattle.loading.specs.declared.Walk.{Walk}
use Rattle.loading.specs.declared.Refusal.{Refusal}
use Rattle.loading.specs.declared.Refusal.TheVariants as refusal
use Rattle.loading.specs.Walk.{keeps_in, names_in, walked, named_words, Named, judged_in, Settled, LineAdded, PairStarted, rest_of, Turned, Walks, Reads, ReadsBelow}
use Rattle.loading.proofs.Walked.{walk_key, walk_other, walk_end, mend_walked}

-- ── Dropped lines ───────────────────────────────────────────────────────────────────────────────────────────────────

pub dropped_length : (reason n k : ℕ) → length (dropped_from reason n k) ≡ k
unfolding dropped_from
dropped_length reason n zero = refl
dropped_length reason n (suc k) = ap suc (dropped_length reason (suc n) k)

dropped_snoc : (reason n k : ℕ) → dropped_from reason n k ++ dropped_from reason (n + k) 1 ≡ dropped_from reason n (suc k)
unfolding dropped_from
dropped_snoc reason n zero = ap (λ (n : ℕ). dropped_from reason n 1) (omega arith)
dropped_snoc reason n (suc k) =
    let z : n + suc k ≡ suc n + k = omega arith in
    ap (λ (ds : List Dropped). record { line = n; reason = reason } ∷ ds)
    (ap (λ (m : ℕ). dropped_from reason (suc n) k ++ dropped_from reason m 1) z ∙ dropped_snoc reason (suc n) k)

pub dropped_next : (reason n k : ℕ) → dropped_from reason n k ++ dropped_from reason (n + k) 1 ≡ dropped_from reason n (k + 1)
dropped_next reason n k = rw add-one (dropped_snoc reason n k)

named_append : (ds es : List Dropped) → named_words (ds ++ es) ≡ named_words ds ++ named_words es
unfolding named_words
named_append [] es = refl
named_append (d ∷ ds) es = ap (λ (x : List ℕ). d.line ∷ d.reason ∷ x) (named_append ds es)

-- None, and some behind others.
pub named_none : (before : ℕ) (b : List ℕ) → Named before [] b b
unfolding named_words
named_none before b = record { size = refl; wrote = λ h. wrote_at (wrote_none b (2 * before) (omega arith)) }
  where
    wrote_at : Wrote [] (2 * before) b b (2 * before) → Wrote [] (2 * before) b b (2 * (before + 0))
    wrote_at w = subst (λ (n : ℕ). Wrote [] (2 * before) b b n) (omega arith) w

pub named_then : {before : ℕ} {ds es : List Dropped} {b c d : List ℕ} → Named before ds b c → Named (before + length ds) es c d → Named before (ds ++ es) b d
named_then {before} {ds} {es} {b} {c} {d} x y =
    let sum : length (ds ++ es) ≡ length ds + length es = length-append ds es in
    record {
      size = y.size ∙ x.size;
      wrote = λ h.
          let v = x.wrote (omega (arith, h, sum)) in
          let u = y.wrote (omega (arith, h, sum, x.size)) in
          let n : 2 * (before + length ds + length es) ≡ 2 * (before + length (ds ++ es)) = omega (arith, sum) in
          subst (λ (n : ℕ). Wrote (named_words (ds ++ es)) (2 * before) b d n) n (wrote_as (sym (named_append ds es)) (then v u));
    }

-- No room for it, and the two words of a line.
pub named_short : (before reason line : ℕ) (b : List ℕ) → length b / 2 ≤ before → Named before (dropped_from reason line 1) b b
unfolding dropped_from
named_short before reason line b h = record { size = refl; wrote = λ g. absurd (omega (arith, g, h)) }

pub named_one : (before reason line : ℕ) {b c d : List ℕ} {n m : ℕ} → Wrote (line ∷ []) (2 * before) b c n → Wrote (reason ∷ []) n c d m → Named before (dropped_from reason line 1) b d
unfolding dropped_from named_words
named_one before reason line {b} {c} {d} {n} {m} v u =
    let w = then v u in
    record { size = wrote_length w; wrote = λ h. subst (λ (k : ℕ). Wrote (line ∷ reason ∷ []) (2 * before) b d k) (omega (arith, w.ends)) w }

-- One line more, and all of them.
pub named_next : (before reason first i : ℕ) {b c d : List ℕ} → Named before (dropped_from reason first i) b c → Named (before + i) (dropped_from reason (first + i) 1) c d → Named before (dropped_from reason first (i + 1)) b d
named_next before reason first i {b} {c} {d} x y =
    let n : before + i ≡ before + length (dropped_from reason first i) = omega (arith, dropped_length reason first i) in
    subst (λ (ds : List Dropped). Named before ds b d) (dropped_next reason first i)
    (named_then x (subst (λ (n : ℕ). Named n (dropped_from reason (first + i) 1) c d) n y))

pub named_all : (before reason first lines i : ℕ) {b c : List ℕ} → Named before (dropped_from reason first i) b c → i ≤ lines → lines ≤ i → Named before (dropped_from reason first lines) b c
named_all before reason first lines i {b} {c} x h g = let e : i ≡ lines = omega (arith, h, g) in subst (λ (n : ℕ). Named before (dropped_from reason first n) b c) e x

-- ── A pair that has ended ───────────────────────────────────────────────────────────────────────────────────────────

shown_floor : (w s : List ℕ) → layout_rule w s ≡ true → (table_of w s).floor ≡ floor_of w
unfolding laid_table
shown_floor w s ok = ap (λ (t : Table). t.floor) (shown w s ok)

module _ (w s suffix named : List ℕ) (x : Walk) (ok : layout_rule w s ≡ true) (r : Result entries.Kept ℕ) (j : EntryJudged w s suffix (entry_shown suffix x.said) r) where
  pub insertable : (k : entries.Kept) → r ≡ Ok k → (k.size ≤ length suffix) × Ready k.place (take k.size suffix) w s
  insertable k e = subst (Insertable w s suffix) e j.ready

  pub settled_kept : (k : entries.Kept) → r ≡ Ok k → {w' s' : List ℕ} → Inserted (take k.size suffix) k.pair w s w' s' → Settled w s suffix named x w' s' named x.dropped
  unfolding keeps_in names_in with_row
  settled_kept k e {w'} {s'} i =
      let is : judged_in w s suffix x ≡ keeps (record { suffix = take k.size suffix; pair = k.pair }) = j.says ∙ ap (judged_shown suffix) e in
      record {
        layout = i.layout;
        clock = sym (shown_clock w' s' i.layout) ∙ ap (λ (t : Table). t.clock) i.table ∙ shown_clock w s ok;
        floor = sym (shown_floor w' s' i.layout) ∙ ap (λ (t : Table). t.floor) i.table ∙ shown_floor w s ok;
        rows = ap (λ (t : Table). t.rows) i.table ∙ ap (keeps_in (table_of w s).rows) (sym is);
        names = subst (λ (d : Judged). Named x.dropped (names_in x.first x.lines d) named named) (sym is) (named_none x.dropped named);
        count = subst (λ (d : Judged). x.dropped ≡ x.dropped + length (names_in x.first x.lines d)) (sym is) (omega arith);
        few = omega arith;
      }

  pub settled_dropped : (reason : ℕ) → r ≡ Err reason → {named' : List ℕ} → Named x.dropped (dropped_from reason x.first x.lines) named named' → Settled w s suffix named x w s named' (x.dropped + x.lines)
  unfolding keeps_in names_in
  settled_dropped reason e {named'} m =
      let is : judged_in w s suffix x ≡ drops reason = j.says ∙ ap (judged_shown suffix) e in
      let n = dropped_length reason x.first x.lines in
      record {
        layout = ok;
        clock = refl;
        floor = refl;
        rows = ap (keeps_in (table_of w s).rows) (sym is);
        names = subst (λ (d : Judged). Named x.dropped (names_in x.first x.lines d) named named') (sym is) m;
        count = subst (λ (d : Judged). x.dropped + x.lines ≡ x.dropped + length (names_in x.first x.lines d)) (sym is) (omega (arith, n));
        few = omega arith;
      }

-- ── One line more ───────────────────────────────────────────────────────────────────────────────────────────────────

pub line_added : (line : List ℕ) (x : Walk) {k : Option Stated} {more : Open} → k ≡ read_key line → KeyAdded x.said k more
    → LineAdded line x (record { first = x.first; lines = x.lines + 1; dropped = x.dropped; said = more })
line_added line x is a = record { first = refl; lines = omega arith; dropped = refl; fits = a.size; adds = λ s. a.adds s ∙ ap (entry_added (entry_shown s x.said)) is }

pub pair_started : (line : List ℕ) {suffix suffix' : List ℕ} (first dropped : ℕ) {p : Option (ℕ × Pair)} {said : Open} → PairRead line suffix suffix' p → Begun p said
    → PairStarted line suffix suffix' first dropped (record { first = first; lines = 1; dropped = dropped; said = said })
pair_started line {suffix} {suffix'} first dropped r b =
    record { first_is = refl; lines = refl; dropped_is = refl; size = r.size; fits = b.size 128 r.bound; begins = b.begins suffix' ∙ ap entry_begun (sym r.says) }

module _ (w s suffix named line : List ℕ) (x : Walk) where
  pub turned_key :
      layout_rule w s ≡ true → open_size x.said ≤ 128 → is_key_line line ≡ true → {y : Walk} → LineAdded line x y
      → Turned w s suffix named line x w s suffix named y
  turned_key ok fits is {y} a = record {
    layout = ok;
    clock = refl;
    floor = refl;
    size = refl;
    fits = omega (arith, a.fits, fits);
    passes = omega (arith, a.first, a.lines);
    few = λ h. omega (arith, a.first, a.dropped, h);
    ds = [];
    names = named_none x.dropped named;
    count = omega (arith, a.dropped);
    walks = λ ls.
        walk_key (clock_of w) (table_of w s).rows x.first x.lines (entry_shown suffix x.said) line ls is
        ∙ ap (λ (e : Entry). walked (clock_of w) (table_of w s).rows x.first (suc x.lines) e ls) (sym (a.adds suffix))
        ∙ ap₂ (λ (n k : ℕ). walked (clock_of w) (table_of w s).rows n k (entry_shown suffix y.said) ls) (sym a.first) (sym a.lines);
  }

  pub turned_other :
      is_key_line line ≡ false → {w' s' named' suffix' : List ℕ} {dropped : ℕ} → Settled w s suffix named x w' s' named' dropped
      → {y : Walk} → PairStarted line suffix suffix' (x.first + x.lines) dropped y
      → Turned w s suffix named line x w' s' suffix' named' y
  turned_other is {w'} {s'} {named'} {suffix'} {dropped} e {y} p =
      let j = judged_in w s suffix x in
      let ds = names_in x.first x.lines j in
      record {
        layout = e.layout;
        clock = e.clock;
        floor = e.floor;
        size = p.size;
        fits = p.fits;
        passes = omega (arith, p.first_is, p.lines);
        few = λ h. omega (arith, p.first_is, p.dropped_is, e.few, h);
        ds = ds;
        names = e.names;
        count = p.dropped_is ∙ e.count;
        walks = λ ls.
            walk_other (clock_of w) (table_of w s).rows x.first x.lines (entry_shown suffix x.said) line ls is
            ∙ ap (dropping ds)
            (ap₂ (λ (c : ℕ) (rows : List Row). walked c rows (x.first + x.lines) 1 (entry_begun (read_pair line)) ls) (sym e.clock) (sym e.rows)
            ∙ ap₂ (λ (n k : ℕ). walked (clock_of w') (table_of w' s').rows n k (entry_begun (read_pair line)) ls) (sym p.first_is) (sym p.lines)
            ∙ ap (λ (e : Entry). walked (clock_of w') (table_of w' s').rows y.first y.lines e ls) (sym p.begins));
      }

-- ── All lines ───────────────────────────────────────────────────────────────────────────────────────────────────────

dropping_twice : (ds es : List Dropped) (k : Kept) → dropping ds (dropping es k) ≡ dropping (ds ++ es) k
dropping_twice ds es k = let e = append_assoc ds es k.dropped in λ i. record { rows = k.rows; dropped = sym e i }

zero_plus : (n : ℕ) → n ≡ 0 + n
zero_plus n = omega arith

-- The walk's invariant: what was to be walked is what was dropped so far, and what is left.
pub record Walking (text : List ℕ) (from : ℕ) (w₀ s₀ named₀ w s named suffix : List ℕ) (at : ℕ) (x : Walk) : Type 0 where
  pub within : at ≤ length text
  pub numbered : x.first + x.lines ≤ at
  pub few : x.dropped ≤ x.first
  pub layout : layout_rule w s ≡ true
  pub clock : clock_of w ≡ clock_of w₀
  pub floor : floor_of w ≡ floor_of w₀
  pub buffer : length suffix ≡ 128
  pub fits : open_size x.said ≤ 128
  pub ds : List Dropped
  pub names : Named 0 ds named₀ named
  pub count : x.dropped ≡ length ds
  pub walks : walked (clock_of w₀) (table_of w₀ s₀).rows 2 0 unread (lines_of (drop from text)) ≡ dropping ds (rest_of w s suffix x (lines_of (drop at text)))

module _ (text : List ℕ) (from : ℕ) (w₀ s₀ named₀ : List ℕ) where
  pub walking_first : (suffix : List ℕ) → length suffix ≡ 128 → layout_rule w₀ s₀ ≡ true → 2 ≤ from → from ≤ length text
      → Walking text from w₀ s₀ named₀ w₀ s₀ named₀ suffix from (record { first = 2; lines = 0; dropped = 0; said = Unread })
  walking_first suffix long ok h g = record {
    within = g;
    numbered = omega (arith, h);
    few = omega arith;
    layout = ok;
    clock = refl;
    floor = refl;
    buffer = long;
    fits = omega arith;
    ds = [];
    names = named_none 0 named₀;
    count = refl;
    walks = refl;
  }

  module _ (w s named suffix : List ℕ) (at : ℕ) (x : Walk) (v : Walking text from w₀ s₀ named₀ w s named suffix at x) where
    pub walking_next : {end : ℕ} → LineEnds text at end → {w' s' suffix' named' : List ℕ} {y : Walk} → Turned w s suffix named (take (end - at) (drop at text)) x w' s' suffix' named' y
        → Walking text from w₀ s₀ named₀ w' s' named' suffix' end y
    walking_next {end} l {w'} {s'} {suffix'} {named'} {y} t =
        let es = t.ds in
        record {
          within = l.within;
          numbered = omega (arith, t.passes, v.numbered, l.more);
          few = t.few v.few;
          layout = t.layout;
          clock = t.clock ∙ v.clock;
          floor = t.floor ∙ v.floor;
          buffer = t.size ∙ v.buffer;
          fits = t.fits;
          ds = v.ds ++ es;
          names = named_then v.names (subst (λ (n : ℕ). Named n es named named') (v.count ∙ zero_plus (length v.ds)) t.names);
          count = t.count ∙ ap (λ (n : ℕ). n + length es) v.count ∙ sym (length-append v.ds es);
          walks =
              v.walks
              ∙ ap (λ (ls : List (List ℕ)). dropping v.ds (rest_of w s suffix x ls)) l.line
              ∙ ap (dropping v.ds) (t.walks (lines_of (drop end text)))
              ∙ dropping_twice v.ds es (rest_of w' s' suffix' y (lines_of (drop end text)));
        }

    pub walking_last : length text ≤ at → {w' s' named' : List ℕ} {dropped : ℕ} → Settled w s suffix named x w' s' named' dropped → Walks text from w₀ s₀ named₀ w' s' named' dropped
    unfolding lines_of
    walking_last h {w'} {s'} {named'} {dropped} e =
        let es = names_in x.first x.lines (judged_in w s suffix x) in
        let end : lines_of (drop at text) ≡ [] = ap lines_of (drop_of_length-le text h) in
        record {
          layout = e.layout;
          clock = e.clock ∙ v.clock;
          floor = e.floor ∙ v.floor;
          ds = v.ds ++ es;
          names = named_then v.names (subst (λ (n : ℕ). Named n es named named') (v.count ∙ zero_plus (length v.ds)) e.names);
          count = e.count ∙ ap (λ (n : ℕ). n + length es) v.count ∙ sym (length-append v.ds es);
          walks =
              v.walks
              ∙ ap (λ (ls : List (List ℕ)). dropping v.ds (rest_of w s suffix x ls)) end
              ∙ ap (dropping v.ds) (walk_end (clock_of w) (table_of w s).rows x.first x.lines (entry_shown suffix x.said))
              ∙ ap (λ (rows : List Row). record { rows = rows; dropped = v.ds ++ es }) (sym e.rows);
        }

-- ── The whole text ──────────────────────────────────────────────────────────────────────────────────────────────────

same_table : (t : Table) {clock floor : ℕ} → t.clock ≡ clock → t.floor ≡ floor → t ≡ record { clock = clock; floor = floor; rows = t.rows }
same_table t e f = λ i. record { clock = e i; floor = f i; rows = t.rows }

module _ (text : List ℕ) (from : ℕ) (c : Clocked) where
  pub below_broken : clocked_rule c ≡ false → (w s named : List ℕ) → ReadsBelow text from c w s named named (Err refusal.Table)
  below_broken rule w s named = rw rule refl

  pub below_done :
      clocked_rule c ≡ true → {w₁ s named w' s' named' : List ℕ} {dropped : ℕ}
      → Cleared c.clock c.floor w₁ → length s ≡ 8192 → Walks text from w₁ s named w' s' named' dropped
      → ReadsBelow text from c w' s' named named' (Ok dropped)
  below_done rule {w₁} {s} {named} {w'} {s'} {named'} {dropped} cleared octets v =
      let first = cleared.table s octets in
      let ok = cleared.layout s octets in
      let clock : clock_of w₁ ≡ c.clock = sym (shown_clock w₁ s ok) ∙ ap (λ (t : Table). t.clock) first in
      let floor : floor_of w₁ ≡ c.floor = sym (shown_floor w₁ s ok) ∙ ap (λ (t : Table). t.floor) first in
      let rows : (table_of w₁ s).rows ≡ [] = ap (λ (t : Table). t.rows) first in
      let left : table_of w' s' ≡ record { clock = c.clock; floor = c.floor; rows = (table_of w' s').rows } =
      same_table (table_of w' s') (shown_clock w' s' v.layout ∙ v.clock ∙ clock) (shown_floor w' s' v.layout ∙ v.floor ∙ floor) in
      let is : walked c.clock [] 2 0 unread (lines_of (drop from text)) ≡ record { rows = (table_of w' s').rows; dropped = v.ds } =
      ap₂ (λ (n : ℕ) (rs : List Row). walked n rs 2 0 unread (lines_of (drop from text))) (sym clock) (sym rows) ∙ v.walks in
      subst (λ (m : Mended). Reads m w' s' named named' (Ok dropped)) (sym (mend_walked (lines_of (drop from text)) c rule ∙ ap (mended_with c) is))
      (left, ap Ok v.count, v.names)

clock_long : (clock floor : ℕ) → 2 ≤ length (clock_line clock floor)
unfolding clock_line tabbed line_of
clock_long clock floor = omega arith

pub no_octets : (s : List ℕ) → length s ≡ 0 → s ≡ []
no_octets [] e = refl
no_octets (x ∷ xs) e = absurd (omega (arith, e))

-- By the first line.
module _ (text : List ℕ) where
  pub mend_empty : length text ≡ 0 → (w s named : List ℕ) → Reads (mend text) w s named named (Err refusal.Line)
  unfolding mend mend_lines lines_of
  mend_empty h w s named = subst (λ (x : List ℕ). Reads (mend x) w s named named (Err refusal.Line)) (sym (no_octets text h)) refl

  module _ (end : ℕ) (l : LineEnds text 0 end) where
    pub first_line : lines_of text ≡ take end text ∷ lines_of (drop end text)
    first_line = l.line ∙ ap (λ (x : List ℕ). x ∷ lines_of (drop end text)) (from_start end text)

    mend_by : (r : Option Clocked) → r ≡ read_clock (take end text) → mend text ≡ mended_by r (blocks_of (lines_of (drop end text)))
    unfolding mend mend_lines
    mend_by r is = ap mend_lines first_line ∙ ap (λ (o : Option Clocked). mended_by o (blocks_of (lines_of (drop end text)))) (sym is)

    pub first_long : (r : Option Clocked) (c : Clocked) → r ≡ read_clock (take end text) → r ≡ Some c → 2 ≤ end
    first_long r c is e =
        let long = subst (λ (x : List ℕ). 2 ≤ length x) (sym (clock_is (take end text) c (sym is ∙ e))) (clock_long c.clock c.floor) in
        omega (arith, long, length-take-le end text l.within)

    pub first_unread_lem : (r : Option Clocked) → r ≡ read_clock (take end text) → r ≡ None → (w s named : List ℕ) → Reads (mend text) w s named named (Err refusal.Line)
    first_unread_lem r is e w s named =
        subst (λ (m : Mended). Reads m w s named named (Err refusal.Line)) (sym (mend_by r is ∙ ap (λ (r : Option Clocked). mended_by r (blocks_of (lines_of (drop end text)))) e)) refl

    pub first_read :
        (r : Option Clocked) (c : Clocked) → r ≡ read_clock (take end text) → r ≡ Some c → (w s named named' : List ℕ) (a : Result ℕ Refusal)
        → ReadsBelow text end c w s named named' a → Reads (mend text) w s named named' a
    first_read r c is e w s named named' a b =
        subst (λ (m : Mended). Reads m w s named named' a) (sym (mend_by r is ∙ ap (λ (r : Option Clocked). mended_by r (blocks_of (lines_of (drop end text)))) e)) b

-- ── The first line that does not read ───────────────────────────────────────────────────────────────────────────────

-- A line that reads is no `key` line of line 1.
reads_below : (b top : Bool) (l : List ℕ) → reads_as b top l ≡ true → (top && b) ≡ false
reads_below b false l e = refl
reads_below true true l e = absurd (false≢true e)
reads_below false true l e = refl

module _ (text : List ℕ) (from at n : ℕ) (whole : unread_from true 2 (lines_of (drop from text)) ≡ unread_from (eqb n 2) n (lines_of (drop at text))) where
  abbrev here : ℕ → List ℕ
  here end = take (end - at) (drop at text)

  opened_line : {end : ℕ} → LineEnds text at end
      → unread_from true 2 (lines_of (drop from text))
      ≡ unread_or (reads_as (is_key_line (here end)) (eqb n 2) (here end)) n (unread_from (eqb n 2 && is_key_line (here end)) (suc n) (lines_of (drop end text)))
  unfolding unread_from
  opened_line l = whole ∙ ap (unread_from (eqb n 2) n) l.line

  pub unread_here : (end : ℕ) → LineEnds text at end → reads_as (is_key_line (here end)) (eqb n 2) (here end) ≡ false → 2 ≤ n → unread_from true 2 (lines_of (drop from text)) ≡ Some n
  unread_here end l e h = opened_line l ∙ rw e refl

  pub unread_next : (end : ℕ) → LineEnds text at end → reads_as (is_key_line (here end)) (eqb n 2) (here end) ≡ true → 2 ≤ n
      → unread_from true 2 (lines_of (drop from text)) ≡ unread_from (eqb (n + 1) 2) (n + 1) (lines_of (drop end text))
  unread_next end l e h =
      opened_line l
      ∙ rw e
      (ap₂ (λ (b : Bool) (m : ℕ). unread_from b m (lines_of (drop end text)))
      (reads_below (is_key_line (here end)) (eqb n 2) (here end) e ∙ sym (ne_eqb (n + 1) 2 (λ z. omega (arith, z, h))))
      (sym (add-one n)))

  pub unread_end : length text ≤ at → unread_from true 2 (lines_of (drop from text)) ≡ None
  unfolding lines_of unread_from
  unread_end h = whole ∙ ap (λ (x : List ℕ). unread_from (eqb n 2) n (lines_of x)) (drop_of_length-le text h)
