-- Mending (02, CR 7): what it keeps keeps the table rules and lists again, a listing that loads is kept whole, and a line is dropped for one of the four
-- reasons. Assumes nothing.
use mathlib.Core.Path.{◌≡◌, refl, sym, ap, ap₂, ◌∙◌, subst}
use mathlib.Core.Bool.{Bool, true, false, cond, not, ◌&&◌, ◌||◌}
use Rattle.std.specs.Prelude.{Option, None, Some}
use Rattle.std.proofs.lemmas.Option.{same_Some, none-some}
use mathlib.Core.List.{List, [], ◌∷◌, ◌++◌, append_assoc, append-nil, map, map-append}
use Prim.Native.Nat.{ℕ, zero, suc, ◌+◌, ◌≤◌, ◌<◌}
use native.Mathlib.Omega.{arith}
use lib.Dec.{leb, ltb, eqb}
use lib.ListN.{length, length-append}
use borrow.Author.Tests.{leb-true, le-leb, lt-leb, ltb-true, lt-ltb, eqb-false, ne_eqb}
use Rattle.model.specs.declared.Pair.{Pair}
use Rattle.model.specs.Names.{same_name}
use Rattle.model.specs.Tables.{Row, Table, every, is_none, names_of, row_named, distinct, suffix_ok, serial_rule, clock_rule, pair_rule, table_tests, table_rules}
use Rattle.model.specs.Calls.{TABLE, TWIN, FULL, LINE}
use Rattle.model.specs.Listing.{listing}
use Rattle.model.specs.declared.Clocked.{Clocked}
use Rattle.model.specs.Lines.{lines_of, are_octets, read_clock}
use Rattle.model.specs.Loading.{Block, Blocks, blocks_of, size_of, Entry, unread, says, entry_of, row_from, rows_of, table_said, loaded, load, Judged, keeps, drops, sound_row, judged, is_reason, Dropped, dropped_from, Kept, dropping, kept_from, clocked_rule, Mended, no_clock, no_rule, no_room, mended, mended_by, mend_lines, mend, mended_in, mend_in, names_line, left_from, lines_left}
use Rattle.model.proofs.Tests.{left, right, both, and_assoc, each, all_true, either, by_check}
use Rattle.model.proofs.Rows.{every_snoc, none_named, distinct_snoc}
use Rattle.model.proofs.LineLaws.{clock_is, joined, lines_joined}
use Rattle.model.proofs.Loads.{block_of, flat, listing_lines_lem, blocks_flat, block_says, row_says, rows_say, table_says, load_is, load_back}

-- ── Rules of rows ───────────────────────────────────────────────────────────────────────────────────────────────────

abbrev names : List Row → List (List ℕ)
names rs = map (λ r. r.suffix) rs

pub every_append : {X : Type 0} (p : X → Bool) (a b : List X) → every p (a ++ b) ≡ (every p a && every p b)
every_append p [] b = refl
every_append p (x ∷ a) b = ap (λ (c : Bool). p x && c) (every_append p a b) ∙ sym (and_assoc (p x) (every p a) (every p b))

every_front : {X : Type 0} (p : X → Bool) (a b : List X) → every p (a ++ b) ≡ true → every p a ≡ true
every_front p a b e = left (every p a) (every p b) (sym (every_append p a b) ∙ e)

distinct_front : (a b : List (List ℕ)) → distinct (a ++ b) ≡ true → distinct a ≡ true
unfolding distinct
distinct_front [] b e = refl
distinct_front (s ∷ a) b e =
    let p = left (is_none (row_named (a ++ b) s)) (distinct (a ++ b)) e in
    both (is_none (row_named a s)) (distinct a) (none_named a s ∙ every_front (λ x. not (same_name x s)) a b (sym (none_named (a ++ b) s) ∙ p))
    (distinct_front a b (right (is_none (row_named (a ++ b) s)) (distinct (a ++ b)) e))

-- The rules that rows keep, at a clock.
record RowsOk (clock : ℕ) (rs : List Row) : Type 0 where
  few : length rs ≤ 64
  good : every suffix_ok (names rs) ≡ true
  apart : distinct (names rs) ≡ true
  sound : every (λ r. pair_rule clock r.pair) rs ≡ true

none_ok : (clock : ℕ) → RowsOk clock []
unfolding distinct
none_ok clock = record { few = omega arith; good = refl; apart = refl; sound = refl }

-- The rows before rows.
front_ok : (clock : ℕ) (a b : List Row) → RowsOk clock (a ++ b) → RowsOk clock a
front_ok clock a b o = record {
  few = omega (arith, o.few, length-append a b);
  good = every_front suffix_ok (names a) (names b) (ap (every suffix_ok) (sym (map-append (λ r. r.suffix) a b)) ∙ o.good);
  apart = distinct_front (names a) (names b) (ap distinct (sym (map-append (λ r. r.suffix) a b)) ∙ o.apart);
  sound = every_front (λ r. pair_rule clock r.pair) a b o.sound;
}

-- A row that may be kept beside rows, and what that says of all.
record Fits (clock : ℕ) (kept : List Row) (r : Row) : Type 0 where
  new : is_none (row_named (names kept) r.suffix) ≡ true
  room : length kept < 64
  good : suffix_ok r.suffix ≡ true
  sound : pair_rule clock r.pair ≡ true

names_snoc : (kept : List Row) (r : Row) → names (kept ++ (r ∷ [])) ≡ names kept ++ (r.suffix ∷ [])
names_snoc kept r = map-append (λ r. r.suffix) kept (r ∷ [])

kept_ok : (clock : ℕ) (kept : List Row) (r : Row) → RowsOk clock kept → Fits clock kept r → RowsOk clock (kept ++ (r ∷ []))
kept_ok clock kept r o f = record {
  few = omega (arith, f.room, length-append kept (r ∷ []));
  good = ap (every suffix_ok) (names_snoc kept r) ∙ every_snoc suffix_ok (names kept) r.suffix ∙ both (every suffix_ok (names kept)) (suffix_ok r.suffix) o.good f.good;
  apart = ap distinct (names_snoc kept r) ∙ distinct_snoc (names kept) r.suffix ∙ both (distinct (names kept)) (is_none (row_named (names kept) r.suffix)) o.apart f.new;
  sound = every_snoc (λ r. pair_rule clock r.pair) kept r ∙ both (every (λ r. pair_rule clock r.pair) kept) (pair_rule clock r.pair) o.sound f.sound;
}

last_fits : (clock : ℕ) (kept : List Row) (r : Row) → RowsOk clock (kept ++ (r ∷ [])) → Fits clock kept r
last_fits clock kept r o = record {
  new = right (distinct (names kept)) (is_none (row_named (names kept) r.suffix)) (sym (distinct_snoc (names kept) r.suffix) ∙ ap distinct (sym (names_snoc kept r)) ∙ o.apart);
  room = omega (arith, o.few, length-append kept (r ∷ []));
  good = right (every suffix_ok (names kept)) (suffix_ok r.suffix) (sym (every_snoc suffix_ok (names kept) r.suffix) ∙ ap (every suffix_ok) (sym (names_snoc kept r)) ∙ o.good);
  sound = right (every (λ r. pair_rule clock r.pair) kept) (pair_rule clock r.pair) (sym (every_snoc (λ r. pair_rule clock r.pair) kept r) ∙ o.sound);
}

-- ── What is judged of a block ───────────────────────────────────────────────────────────────────────────────────────

abbrev Verdict : ℕ → List Row → Entry → Judged → Type 0
Verdict clock kept e (keeps r) = Fits clock kept r × (e ≡ says r.suffix (Some r.pair))
Verdict clock kept e (drops n) = is_reason n ≡ true

reasons : (is_reason LINE ≡ true) × (is_reason TWIN ≡ true) × (is_reason FULL ≡ true) × (is_reason TABLE ≡ true)
unfolding is_reason LINE TWIN FULL TABLE
reasons = (refl, refl, refl, refl)

verdict : (clock : ℕ) (kept : List Row) (e : Entry) → Verdict clock kept e (judged clock kept e)
unfolding judged
verdict clock kept unread = reasons.0
verdict clock kept (says suffix p) =
    let P : Judged → Type 0 = Verdict clock kept (says suffix p) in
    by_check P drops TWIN reasons.1 (is_none (row_named (names kept) suffix)) λ new.
    by_check P drops FULL reasons.2 (ltb (length kept) 64) λ room.
    last p new (ltb-true (length kept) 64 room)
  where
    last : (p : Option Pair) → is_none (row_named (names kept) suffix) ≡ true → length kept < 64 → Verdict clock kept (says suffix p) (sound_row clock suffix p)
    last None new room = reasons.3
    last (Some p) new room =
        either (Verdict clock kept (says suffix (Some p))) (suffix_ok suffix && pair_rule clock p)
        (λ e. (record { new = new; room = room; good = left (suffix_ok suffix) (pair_rule clock p) e; sound = right (suffix_ok suffix) (pair_rule clock p) e }, refl))
        (λ e. reasons.3)

-- And what fits is kept.
fits_kept : (clock : ℕ) (kept : List Row) (r : Row) → Fits clock kept r → judged clock kept (says r.suffix (Some r.pair)) ≡ keeps r
unfolding judged
fits_kept clock kept r f = rw (f.new, lt-ltb (length kept) 64 f.room, f.good, f.sound) refl

-- ── What is kept of blocks ──────────────────────────────────────────────────────────────────────────────────────────

abbrev pub reasonable : List Dropped → Bool
reasonable ds = every (λ d. is_reason d.reason) ds

record Good (clock : ℕ) (k : Kept) : Type 0 where
  rows_ok : RowsOk clock k.rows
  octets : every are_octets (names k.rows) ≡ true
  reasons_ok : reasonable k.dropped ≡ true

dropped_ok : (reason n k : ℕ) → is_reason reason ≡ true → reasonable (dropped_from reason n k) ≡ true
unfolding dropped_from
dropped_ok reason n zero e = refl
dropped_ok reason n (suc k) e = both (is_reason reason) _ e (dropped_ok reason (suc n) k e)

dropping_good : (clock reason n k : ℕ) (rest : Kept) → is_reason reason ≡ true → Good clock rest → Good clock (dropping (dropped_from reason n k) rest)
dropping_good clock reason n k rest e g = record {
  rows_ok = g.rows_ok;
  octets = g.octets;
  reasons_ok = every_append (λ d. is_reason d.reason) (dropped_from reason n k) rest.dropped ∙ both (reasonable (dropped_from reason n k)) (reasonable rest.dropped) (dropped_ok reason n k e) g.reasons_ok;
}

-- A block whose row is kept says it.
says_row : (b : Block) (r : Row) → entry_of b ≡ says r.suffix (Some r.pair) → row_from (entry_of b) ≡ Some r
says_row b r e = rw e refl

kept_good : (clock : ℕ) (kept : List Row) (n : ℕ) (bs : List Block) → RowsOk clock kept → every are_octets (names kept) ≡ true → Good clock (kept_from clock kept n bs)
unfolding kept_from
kept_good clock kept n [] o x = record { rows_ok = o; octets = x; reasons_ok = refl }
kept_good clock kept n (b ∷ bs) o x =
    go (judged clock kept (entry_of b)) (verdict clock kept (entry_of b)) (λ k. kept_good clock k (n + size_of b) bs)
  where
    go :
        (j : Judged)
        → Verdict clock kept (entry_of b) j
        → ((k : List Row) → RowsOk clock k → every are_octets (names k) ≡ true → Good clock (kept_from clock k (n + size_of b) bs))
        → Good clock
        (elim j [
          | keeps r ↦ kept_from clock (kept ++ (r ∷ [])) (n + size_of b) bs
          | drops reason ↦ dropping (dropped_from reason n (size_of b)) (kept_from clock kept (n + size_of b) bs)
        ])
    go (keeps r) v rec =
        rec (kept ++ (r ∷ [])) (kept_ok clock kept r o v.0)
        (ap (every are_octets) (names_snoc kept r) ∙ every_snoc are_octets (names kept) r.suffix ∙ both (every are_octets (names kept)) (are_octets r.suffix) x (block_says b r (says_row b r v.1)).octets)
    go (drops reason) v rec = dropping_good clock reason n (size_of b) (kept_from clock kept (n + size_of b) bs) v (rec kept o x)

-- Blocks whose rows keep the rules with those kept before are all kept.
all_kept : (clock : ℕ) (kept : List Row) (n : ℕ) (bs : List Block) (rs : List Row) → rows_of bs ≡ Some rs → RowsOk clock (kept ++ rs) → kept_from clock kept n bs ≡ record { rows = kept ++ rs; dropped = [] }
unfolding kept_from rows_of
all_kept clock kept n [] rs e o =
    let is : [] ≡ rs = same_Some [] rs e in
    ap (λ (l : List Row). record { rows = l; dropped = [] }) (sym (append-nil kept) ∙ ap (λ (l : List Row). kept ++ l) is)
all_kept clock kept n (b ∷ bs) rs e o =
    let a = rows_say b bs rs e in
    let r = a.row in
    let all : kept ++ rs ≡ (kept ++ (r ∷ [])) ++ a.rows = ap (λ (l : List Row). kept ++ l) (sym a.is) ∙ sym (append_assoc kept (r ∷ []) a.rows) in
    let o2 : RowsOk clock ((kept ++ (r ∷ [])) ++ a.rows) = subst (RowsOk clock) all o in
    let f = last_fits clock kept r (front_ok clock (kept ++ (r ∷ [])) a.rows o2) in
    ap (λ (j : Judged). elim j as (λ (j : Judged). Kept) [
      | keeps r ↦ kept_from clock (kept ++ (r ∷ [])) (n + size_of b) bs
      | drops reason ↦ dropping (dropped_from reason n (size_of b)) (kept_from clock kept (n + size_of b) bs)
    ]) (ap (judged clock kept) (row_says b r a.first_says) ∙ fits_kept clock kept r f)
    ∙ all_kept clock (kept ++ (r ∷ [])) (n + size_of b) bs a.rows a.rest_says o2
    ∙ ap (λ (l : List Row). record { rows = l; dropped = [] }) (sym all)

-- ── Tables ──────────────────────────────────────────────────────────────────────────────────────────────────────────

clocked_table : (c : Clocked) (rs : List Row) → clocked_rule c ≡ true → RowsOk c.clock rs → table_rules (record { clock = c.clock; floor = c.floor; rows = rs }) ≡ true
unfolding table_rules names_of clocked_rule
clocked_table c rs e o =
    all_true (table_tests (record { clock = c.clock; floor = c.floor; rows = rs }))
    (le-leb (length rs) 64 o.few, (left (clock_rule c.clock) (serial_rule c.floor) e, (o.good, (o.apart, (o.sound, (right (clock_rule c.clock) (serial_rule c.floor) e, tt))))))

table_clocked : (t : Table) → table_rules t ≡ true → RowsOk t.clock t.rows × (clocked_rule (record { clock = t.clock; floor = t.floor }) ≡ true)
unfolding table_rules names_of clocked_rule
table_clocked t r =
    let u = each (table_tests t) r in
    (record { few = leb-true _ _ u.0; good = u.1.1.0; apart = u.1.1.1.0; sound = u.1.1.1.1.0 }, both (clock_rule t.clock) (serial_rule t.floor) u.1.0 u.1.1.1.1.1.0)

-- ── Mending ─────────────────────────────────────────────────────────────────────────────────────────────────────────

-- What is mended: the table keeps the rules, its suffixes are octets, and each dropped line has one of the four reasons.
pub record Sound (t : Table) (ds : List Dropped) : Type 0 where
  pub rules : table_rules t ≡ true
  pub octets : every are_octets (names_of t) ≡ true
  pub reasons_ok : reasonable ds ≡ true

abbrev SoundBy : Mended → Type 0
SoundBy no_clock = Unit {0}
SoundBy no_rule = Unit {0}
SoundBy no_room = Unit {0}
SoundBy (mended t ds) = Sound t ds

mended_by_lem : (o : Option Clocked) (b : Blocks) → SoundBy (mended_by o b)
unfolding names_of
mended_by_lem None b = tt
mended_by_lem (Some c) b =
    either SoundBy (clocked_rule c)
    (λ e.
    let k = length b.loose in
    let g = dropping_good c.clock LINE 2 k _ reasons.0 (kept_good c.clock [] (2 + k) b.blocks (none_ok c.clock) refl) in
    record { rules = clocked_table c _ e g.rows_ok; octets = g.octets; reasons_ok = g.reasons_ok })
    (λ e. tt)

lines_sound : (ls : List (List ℕ)) → SoundBy (mend_lines ls)
unfolding mend_lines
lines_sound [] = tt
lines_sound (l ∷ ls) = mended_by_lem (read_clock l) (blocks_of ls)

pub mend_sound : (s : List ℕ) (t : Table) (ds : List Dropped) → mend s ≡ mended t ds → Sound t ds
unfolding mend
mend_sound s t ds e = subst SoundBy e (lines_sound (lines_of s))

-- A listing that loads is kept whole.
lines_whole : (ls : List (List ℕ)) (t : Table) → table_said ls ≡ Some t → table_rules t ≡ true → mend_lines ls ≡ mended t []
unfolding mend_lines table_said dropped_from
lines_whole [] t e r = absurd (none-some t e)
lines_whole (l ∷ ls) t e r =
    let a = table_says l ls t e in
    let c = a.clocked in
    let u : Table = record { clock = c.clock; floor = c.floor; rows = a.rows } in
    let o = table_clocked u (ap table_rules a.is ∙ r) in
    rw (a.clock_reads, o.1, a.none_loose, all_kept c.clock [] 2 (blocks_of ls).blocks a.rows a.rows_read o.0) (ap (λ (t : Table). mended t []) a.is)

pub mend_whole : (s : List ℕ) (t : Table) → load s ≡ loaded t → mend s ≡ mended t []
unfolding mend
mend_whole s t e = let l = load_is s t e in lines_whole (lines_of s) t l.said l.rules

-- ── Exactly the pairs that break no rule with those kept before ─────────────────────────────────────────────────────

abbrev pub table_with : Clocked → List Row → Table
table_with c rs = record { clock = c.clock; floor = c.floor; rows = rs }

pub kept_rules : (c : Clocked) (kept : List Row) (e : Entry) (r : Row) → table_rules (table_with c kept) ≡ true → judged c.clock kept e ≡ keeps r → (e ≡ says r.suffix (Some r.pair)) × (table_rules (table_with c (kept ++ (r ∷ []))) ≡ true)
kept_rules c kept e r t j =
    let o = table_clocked (table_with c kept) t in
    let v : Verdict c.clock kept e (keeps r) = subst (Verdict c.clock kept e) j (verdict c.clock kept e) in
    (v.1, clocked_table c (kept ++ (r ∷ [])) o.1 (kept_ok c.clock kept r o.0 v.0))

pub rules_kept : (c : Clocked) (kept : List Row) (r : Row) → table_rules (table_with c (kept ++ (r ∷ []))) ≡ true → judged c.clock kept (says r.suffix (Some r.pair)) ≡ keeps r
rules_kept c kept r t = fits_kept c.clock kept r (last_fits c.clock kept r (table_clocked (table_with c (kept ++ (r ∷ []))) t).0)

-- ── The lines that are left ─────────────────────────────────────────────────────────────────────────────────────────

or_assoc : (a b c : Bool) → ((a || b) || c) ≡ (a || (b || c))
or_assoc true b c = refl
or_assoc false b c = refl

names_append : (ds es : List Dropped) (i : ℕ) → names_line (ds ++ es) i ≡ (names_line ds i || names_line es i)
unfolding names_line
names_append [] es i = refl
names_append (d ∷ ds) es i = ap (λ (b : Bool). eqb d.line i || b) (names_append ds es i) ∙ sym (or_assoc (eqb d.line i) (names_line ds i) (names_line es i))

or_left : (a b : Bool) → a ≡ true → (a || b) ≡ true
or_left a b e = rw e refl

names_inside : (reason n k i : ℕ) → n ≤ i → i < n + k → names_line (dropped_from reason n k) i ≡ true
unfolding names_line dropped_from
names_inside reason n zero i a b = absurd (omega arith)
names_inside reason n (suc k) i a b = go (eqb n i) refl (names_inside reason (suc n) k i)
  where
    go : (c : Bool) → eqb n i ≡ c → (suc n ≤ i → i < suc n + k → names_line (dropped_from reason (suc n) k) i ≡ true) → (c || names_line (dropped_from reason (suc n) k) i) ≡ true
    go true e f = refl
    go false e f = let z = eqb-false n i e in f (omega arith) (omega arith)

names_behind : (reason n k i : ℕ) → n + k ≤ i → names_line (dropped_from reason n k) i ≡ false
unfolding names_line dropped_from
names_behind reason n zero i a = refl
names_behind reason n (suc k) i a = rw (ne_eqb n i (λ z. omega arith)) (names_behind reason (suc n) k i (omega arith))

-- No line before n is named.
abbrev late : ℕ → List Dropped → Bool
late n ds = every (λ d. leb n d.line) ds

late_none : (n i : ℕ) (ds : List Dropped) → late n ds ≡ true → i < n → names_line ds i ≡ false
unfolding names_line
late_none n i [] e h = refl
late_none n i (d ∷ ds) e h =
    let l = leb-true n d.line (left (leb n d.line) (late n ds) e) in
    rw (ne_eqb d.line i (λ z. omega arith)) (late_none n i ds (right (leb n d.line) (late n ds) e) h)

late_less : (m n : ℕ) (ds : List Dropped) → m ≤ n → late n ds ≡ true → late m ds ≡ true
late_less m n [] h e = refl
late_less m n (d ∷ ds) h e =
    let l = leb-true n d.line (left (leb n d.line) (late n ds) e) in
    both (leb m d.line) (late m ds) (le-leb m d.line (omega arith)) (late_less m n ds h (right (leb n d.line) (late n ds) e))

late_dropped : (reason m n k : ℕ) → m ≤ n → late m (dropped_from reason n k) ≡ true
unfolding dropped_from
late_dropped reason m n zero h = refl
late_dropped reason m n (suc k) h = both (leb m n) (late m (dropped_from reason (suc n) k)) (le-leb m n h) (late_dropped reason m (suc n) k (omega arith))

-- Lines that are all named, and lines of which none is; and what else names lines before these does not matter.
left_none : (ds : List Dropped) (n : ℕ) (a ls : List (List ℕ)) → ((i : ℕ) → n ≤ i → i < n + length a → names_line ds i ≡ true) → lines_left ds n (a ++ ls) ≡ lines_left ds (n + length a) ls
unfolding lines_left
left_none ds n [] ls f = let z : n + 0 ≡ n = omega arith in rw z refl
left_none ds n (x ∷ a) ls f =
    let z : suc n + length a ≡ n + suc (length a) = omega arith in
    rw (f n (omega arith) (omega arith)) (left_none ds (suc n) a ls (λ i p q. f i (omega arith) (omega arith)) ∙ ap (λ (k : ℕ). lines_left ds k ls) z)

left_all : (ds : List Dropped) (n : ℕ) (a ls : List (List ℕ)) → ((i : ℕ) → n ≤ i → i < n + length a → names_line ds i ≡ false) → lines_left ds n (a ++ ls) ≡ a ++ lines_left ds (n + length a) ls
unfolding lines_left
left_all ds n [] ls f = let z : n + 0 ≡ n = omega arith in rw z refl
left_all ds n (x ∷ a) ls f =
    let z : suc n + length a ≡ n + suc (length a) = omega arith in
    rw (f n (omega arith) (omega arith)) (ap (λ (l : List (List ℕ)). x ∷ l) (left_all ds (suc n) a ls (λ i p q. f i (omega arith) (omega arith)) ∙ ap (λ (k : ℕ). a ++ lines_left ds k ls) z))

left_same : (ds es : List Dropped) (n : ℕ) (ls : List (List ℕ)) → ((i : ℕ) → n ≤ i → names_line ds i ≡ names_line es i) → lines_left ds n ls ≡ lines_left es n ls
unfolding lines_left
left_same ds es n [] f = refl
left_same ds es n (l ∷ ls) f = ap₂ (λ (b : Bool) (x : List (List ℕ)). left_from b l x) (f n (omega arith)) (left_same ds es (suc n) ls (λ i p. f i (omega arith)))

-- Lines dropped, and then further ones.
left_dropped :
    (reason n : ℕ) (es : List Dropped) (a ls : List (List ℕ))
    → lines_left (dropped_from reason n (length a) ++ es) n (a ++ ls) ≡ lines_left es (n + length a) ls
left_dropped reason n es a ls =
    let ds = dropped_from reason n (length a) in
    left_none (ds ++ es) n a ls (λ i p q. names_append ds es i ∙ or_left (names_line ds i) (names_line es i) (names_inside reason n (length a) i p q))
    ∙ left_same (ds ++ es) es (n + length a) ls (λ i p. names_append ds es i ∙ ap (λ (b : Bool). b || names_line es i) (names_behind reason n (length a) i p))

-- Of blocks, the lines of the rows that were kept are left.
record Left (kept : List Row) (n : ℕ) (bs : List Block) (k : Kept) : Type 0 where
  new : List Row
  rows_are : k.rows ≡ kept ++ new
  none_before : late n k.dropped ≡ true
  lines_are : lines_left k.dropped n (flat bs) ≡ flat (map block_of new)

left_keeps : (kept : List Row) (n : ℕ) (b : Block) (bs : List Block) (r : Row) (k : Kept) → b ≡ block_of r → Left (kept ++ (r ∷ [])) (n + size_of b) bs k → Left kept n (b ∷ bs) k
unfolding size_of
left_keeps kept n b bs r k e x = record {
  new = r ∷ x.new;
  rows_are = x.rows_are ∙ append_assoc kept (r ∷ []) x.new;
  none_before = late_less n (n + size_of b) k.dropped (omega arith) x.none_before;
  lines_are =
      left_all k.dropped n (b.starts ∷ b.below) (flat bs) (λ i p q. late_none (n + size_of b) i k.dropped x.none_before q)
      ∙ ap₂ (λ (b : Block) (l : List (List ℕ)). b.starts ∷ (b.below ++ l)) e x.lines_are;
}

left_drops : (kept : List Row) (n reason : ℕ) (b : Block) (bs : List Block) (k : Kept) → Left kept (n + size_of b) bs k → Left kept n (b ∷ bs) (dropping (dropped_from reason n (size_of b)) k)
unfolding size_of
left_drops kept n reason b bs k x = record {
  new = x.new;
  rows_are = x.rows_are;
  none_before =
      every_append (λ d. leb n d.line) (dropped_from reason n (size_of b)) k.dropped
      ∙ both (late n (dropped_from reason n (size_of b))) (late n k.dropped) (late_dropped reason n n (size_of b) (omega arith)) (late_less n (n + size_of b) k.dropped (omega arith) x.none_before);
  lines_are = left_dropped reason n k.dropped (b.starts ∷ b.below) (flat bs) ∙ x.lines_are;
}

kept_left : (clock : ℕ) (kept : List Row) (n : ℕ) (bs : List Block) → Left kept n bs (kept_from clock kept n bs)
unfolding kept_from lines_left
kept_left clock kept n [] = record { new = []; rows_are = sym (append-nil kept); none_before = refl; lines_are = refl }
kept_left clock kept n (b ∷ bs) = go (judged clock kept (entry_of b)) (verdict clock kept (entry_of b)) (λ k. kept_left clock k (n + size_of b) bs)
  where
    go :
        (j : Judged)
        → Verdict clock kept (entry_of b) j
        → ((k : List Row) → Left k (n + size_of b) bs (kept_from clock k (n + size_of b) bs))
        → Left kept n (b ∷ bs)
        (elim j [
          | keeps r ↦ kept_from clock (kept ++ (r ∷ [])) (n + size_of b) bs
          | drops reason ↦ dropping (dropped_from reason n (size_of b)) (kept_from clock kept (n + size_of b) bs)
        ])
    go (keeps r) v rec = left_keeps kept n b bs r _ (block_says b r (says_row b r v.1)).is (rec (kept ++ (r ∷ [])))
    go (drops reason) v rec = left_drops kept n reason b bs _ (rec kept)

-- Of a text, the lines of the table's listing are left.
abbrev LeftBy : List (List ℕ) → Mended → Type 0
LeftBy ls no_clock = Unit {0}
LeftBy ls no_rule = Unit {0}
LeftBy ls no_room = Unit {0}
LeftBy ls (mended t ds) = lines_left ds 1 ls ≡ lines_of (listing t)

lines_left_lem : (l : List ℕ) (ls : List (List ℕ)) (o : Option Clocked) → read_clock l ≡ o → LeftBy (l ∷ ls) (mended_by o (blocks_of ls))
unfolding lines_left
lines_left_lem l ls None e = tt
lines_left_lem l ls (Some c) e =
    either (LeftBy (l ∷ ls)) (clocked_rule c)
    (λ r.
    let b = blocks_of ls in
    let n = 2 + length b.loose in
    let k = kept_from c.clock [] n b.blocks in
    let x = kept_left c.clock [] n b.blocks in
    let ds = dropped_from LINE 2 (length b.loose) ++ k.dropped in
    let no : names_line ds 1 ≡ false = late_none 2 1 ds (every_append (λ d. leb 2 d.line) (dropped_from LINE 2 (length b.loose)) k.dropped ∙ both _ _ (late_dropped LINE 2 2 (length b.loose) (omega arith)) (late_less 2 n k.dropped (omega arith) x.none_before)) (omega arith) in
    ap (λ (b : Bool). left_from b l (lines_left ds 2 ls)) no
    ∙ ap₂ (λ (x : List ℕ) (y : List (List ℕ)). x ∷ y) (clock_is l c e)
    (ap (lines_left ds 2) (blocks_flat ls) ∙ left_dropped LINE 2 k.dropped b.loose (flat b.blocks) ∙ x.lines_are ∙ ap (λ (rs : List Row). flat (map block_of rs)) (sym x.rows_are))
    ∙ sym (listing_lines_lem (table_with c k.rows)))
    (λ r. tt)

mend_lines_left : (ls : List (List ℕ)) → LeftBy ls (mend_lines ls)
unfolding mend_lines
mend_lines_left [] = tt
mend_lines_left (l ∷ ls) = lines_left_lem l ls (read_clock l) refl

pub mend_left : (s : List ℕ) (t : Table) (ds : List Dropped) → mend s ≡ mended t ds → lines_left ds 1 (lines_of s) ≡ lines_of (listing t)
unfolding mend
mend_left s t ds e = subst (LeftBy (lines_of s)) e (mend_lines_left (lines_of s))

-- So a text of which nothing is dropped is the listing, and loads.
left_whole : (n : ℕ) (ls : List (List ℕ)) → lines_left [] n ls ≡ ls
unfolding lines_left names_line
left_whole n [] = refl
left_whole n (l ∷ ls) = ap (λ (x : List (List ℕ)). l ∷ x) (left_whole (suc n) ls)

pub whole_loads : (s : List ℕ) (t : Table) → mend s ≡ mended t [] → load s ≡ loaded t
whole_loads s t e =
    let m = mend_sound s t [] e in
    let same : s ≡ listing t = sym (lines_joined s) ∙ ap joined (sym (left_whole 1 (lines_of s)) ∙ mend_left s t [] e) ∙ lines_joined (listing t) in
    ap load same ∙ load_back t m.rules m.octets

-- ── With room ───────────────────────────────────────────────────────────────────────────────────────────────────────

-- Room refuses, and changes nothing else.
pub mend_in_lem : (room : ℕ) (s : List ℕ) (t : Table) (ds : List Dropped) → mend_in room s ≡ mended t ds → (mend s ≡ mended t ds) × (length ds ≤ room)
unfolding mend_in
mend_in_lem room s t ds e = go (mend s) e
  where
    fits : (u : Table) (es : List Dropped) (b : Bool) → leb (length es) room ≡ b → cond b (mended u es) no_room ≡ mended t ds → (mended u es ≡ mended t ds) × (length ds ≤ room)
    fits u es true h e = let same : es ≡ ds = cc in (e, rw (← same) (leb-true (length es) room h))
    fits u es false h e = let z : ◌≡◌ {A = ℕ} 0 1 = cc in absurd (omega arith)

    go : (m : Mended) → mended_in room m ≡ mended t ds → (m ≡ mended t ds) × (length ds ≤ room)
    go no_clock e = let z : ◌≡◌ {A = ℕ} 0 1 = cc in absurd (omega arith)
    go no_rule e = let z : ◌≡◌ {A = ℕ} 0 1 = cc in absurd (omega arith)
    go no_room e = let z : ◌≡◌ {A = ℕ} 0 1 = cc in absurd (omega arith)
    go (mended u es) e = fits u es (leb (length es) room) refl e

-- ── Room, and the order of what is named ────────────────────────────────────────────────────────────────────────────

pub mend_roomy : (room : ℕ) (s : List ℕ) (t : Table) (ds : List Dropped) → mend s ≡ mended t ds → length ds ≤ room → mend_in room s ≡ mended t ds
unfolding mend_in
mend_roomy room s t ds e h = ap (mended_in room) e ∙ rw (le-leb (length ds) room h) refl

pub mend_short : (room : ℕ) (s : List ℕ) (t : Table) (ds : List Dropped) → mend s ≡ mended t ds → room < length ds → mend_in room s ≡ no_room
unfolding mend_in
mend_short room s t ds e h = ap (mended_in room) e ∙ rw (lt-leb (length ds) room h) refl

-- Lines from n on, each below the next.
abbrev pub Rising : ℕ → List Dropped → Type 0
Rising n [] = Unit {0}
Rising n (d ∷ ds) = (n ≤ d.line) × Rising (suc d.line) ds

rising_from : (n m : ℕ) (ds : List Dropped) → n ≤ m → Rising m ds → Rising n ds
rising_from n m [] h r = tt
rising_from n m (d ∷ ds) h r = (omega (arith, h, r.0), r.1)

rising_dropped : (reason n k : ℕ) (ds : List Dropped) → Rising (n + k) ds → Rising n (dropped_from reason n k ++ ds)
unfolding dropped_from
rising_dropped reason n zero ds r = rising_from n (n + 0) ds (omega arith) r
rising_dropped reason n (suc k) ds r = let z : n + suc k ≡ suc n + k = omega arith in (omega arith, rising_dropped reason (suc n) k ds (subst (λ (m : ℕ). Rising m ds) z r))

rising_kept : (clock : ℕ) (kept : List Row) (n : ℕ) (bs : List Block) → Rising n (kept_from clock kept n bs).dropped
unfolding kept_from
rising_kept clock kept n [] = tt
rising_kept clock kept n (b ∷ bs) = go (judged clock kept (entry_of b)) (λ k. rising_kept clock k (n + size_of b) bs)
  where
    go :
        (j : Judged)
        → ((k : List Row) → Rising (n + size_of b) (kept_from clock k (n + size_of b) bs).dropped)
        → Rising n
        (elim j as (λ (j : Judged). Kept) [
          | keeps r ↦ kept_from clock (kept ++ (r ∷ [])) (n + size_of b) bs
          | drops reason ↦ dropping (dropped_from reason n (size_of b)) (kept_from clock kept (n + size_of b) bs)
        ]).dropped
    go (keeps r) rec = rising_from n (n + size_of b) (kept_from clock (kept ++ (r ∷ [])) (n + size_of b) bs).dropped (omega arith) (rec (kept ++ (r ∷ [])))
    go (drops reason) rec = rising_dropped reason n (size_of b) (kept_from clock kept (n + size_of b) bs).dropped (rec kept)

abbrev RisingIn : Mended → Type 0
RisingIn no_clock = Unit {0}
RisingIn no_rule = Unit {0}
RisingIn no_room = Unit {0}
RisingIn (mended t ds) = Rising 2 ds

lines_rising : (o : Option Clocked) (b : Blocks) → RisingIn (mended_by o b)
lines_rising None b = tt
lines_rising (Some c) b = either RisingIn (clocked_rule c) (λ r. rising_dropped LINE 2 (length b.loose) _ (rising_kept c.clock [] (2 + length b.loose) b.blocks)) (λ r. tt)

mend_rises : (ls : List (List ℕ)) → RisingIn (mend_lines ls)
unfolding mend_lines
mend_rises [] = tt
mend_rises (l ∷ ls) = lines_rising (read_clock l) (blocks_of ls)

pub mend_rising : (s : List ℕ) (t : Table) (ds : List Dropped) → mend s ≡ mended t ds → Rising 2 ds
unfolding mend
mend_rising s t ds e = subst RisingIn e (mend_rises (lines_of s))

-- Mending is done exactly where the clock line reads and keeps its rules; and LINE and TABLE say why it is not.
pub mend_read : (s l : List ℕ) (ls : List (List ℕ)) (c : Clocked) → lines_of s ≡ l ∷ ls → read_clock l ≡ Some c → clocked_rule c ≡ true → (t : Table) × (ds : List Dropped) × (mend s ≡ mended t ds) × (t.clock ≡ c.clock) × (t.floor ≡ c.floor)
unfolding mend mend_lines
mend_read s l ls c e f r =
    let b = blocks_of ls in
    let k = dropping (dropped_from LINE 2 (length b.loose)) (kept_from c.clock [] (2 + length b.loose) b.blocks) in (
      record { clock = c.clock; floor = c.floor; rows = k.rows },
      k.dropped,
      ap mend_lines e ∙ ap (λ (o : Option Clocked). mended_by o b) f ∙ rw r refl,
      refl,
      refl,
    )
