-- The rows of a listing, one after another. Assumes nothing.
use Prim.Native.Nat.{ℕ, ◌+◌, ◌≤◌, ◌<◌}
use mathlib.Core.Path.{◌≡◌, refl, sym, ap, ◌∙◌}
use mathlib.Core.Bool.{true, false}
use mathlib.Core.List.{List, [], ◌∷◌, ◌++◌, append-nil, append_assoc}
use native.Mathlib.Numerals.{add-one}
use native.Mathlib.Omega.{arith}
use lib.Dec.{leb}
use lib.ListN.{length, take, drop, get_or, take-append-drop, length-append}
use lib.Seq.{take-suc, take_all}
use Rattle.model.specs.declared.Pair.{Pair}
use Rattle.model.specs.Octets.{part}
use Rattle.model.specs.Tables.{Row, Table, no_row, row_at, suffix_at, pair_at, table_rules}
use Rattle.model.specs.Listing.{clock_line, pair_line, key_lines, row_lines, rows_lines, listing}
use Rattle.model.specs.Loading.{bad_table, too_long, lists, list_in}
use Rattle.octets.specs.Wrote.{Wrote}
use Rattle.octets.proofs.Laws.{wrote_as, wrote_front}
use Rattle.store.specs.Layout.{clock_of, count_of, floor_of, laid_table, layout_rule, table_of}
use Rattle.store.proofs.Laid.{laid, shown}
use Rattle.outcomes.proofs.Laws.{rules_layout, shown_words, shown_clock, shown_count, suffix_short}

rows_append : (xs ys : List Row) → rows_lines (xs ++ ys) ≡ rows_lines xs ++ rows_lines ys
unfolding rows_lines
rows_append [] ys = refl
rows_append (x ∷ xs) ys = rw (rows_append xs ys, append_assoc) refl

one_row : (r : Row) → rows_lines (r ∷ []) ≡ row_lines r
unfolding rows_lines
one_row r = append-nil (row_lines r)

-- one row more
rows_next :
    (t : Table) (i : ℕ) {x : List ℕ} {p : Pair} → i < length t.rows → x ≡ suffix_at t i → p ≡ pair_at t i
    → rows_lines (take i t.rows) ++ (pair_line x p ++ key_lines p.keys) ≡ rows_lines (take (i + 1) t.rows)
unfolding row_lines suffix_at pair_at row_at
rows_next t i h is_x is-p =
    rw (is_x, is-p)
    (sym
    (rw (add-one, take-suc t.rows i no_row h)
    (rows_append (take i t.rows) (get_or t.rows i no_row ∷ []) ∙ ap (λ (l : List ℕ). rows_lines (take i t.rows) ++ l) (one_row (get_or t.rows i no_row)))))

-- some rows are no longer than all
pub rows_within : (rs : List Row) (i : ℕ) → length (rows_lines (take i rs)) ≤ length (rows_lines rs)
rows_within rs i =
    let e : length (rows_lines rs) ≡ length (rows_lines (take i rs)) + length (rows_lines (drop i rs)) =
    ap (λ (l : List Row). length (rows_lines l)) (sym (take-append-drop i rs)) ∙ ap length (rows_append (take i rs) (drop i rs)) ∙ length-append (rows_lines (take i rs)) (rows_lines (drop i rs)) in
    omega arith

-- the three endings
module _ (t : Table) (room : ℕ) where
  pub ends_bad : table_rules t ≡ false → list_in room t ≡ bad_table
  unfolding list_in
  ends_bad e = rw e refl

  module _ (ok : table_rules t ≡ true) where
    pub ends_long : leb (length (listing t)) room ≡ false → list_in room t ≡ too_long
    unfolding list_in
    ends_long e = rw (ok, e) refl

    pub ends_listed : leb (length (listing t)) room ≡ true → list_in room t ≡ lists (listing t)
    unfolding list_in
    ends_listed e = rw (ok, e) refl

-- lines that were made at the front of one buffer, and copied into another
pub copied : {xs b b' e e' : List ℕ} {n at next : ℕ} → Wrote xs 0 b b' n → Wrote (part b' 0 n) at e e' next → Wrote xs at e e' next
unfolding part
copied w v = wrote_as (wrote_front w) v

-- What is known of a lent table that keeps the rules.
module _ (w s : List ℕ) (ok : table_rules (table_of w s) ≡ true) where
  pub layout : layout_rule w s ≡ true
  layout = rules_layout w s ok

  pub long : length w ≡ 1091
  long = shown_words w s layout

  pub few : count_of w ≤ 64
  few = (laid w s layout).few

  pub count : length (table_of w s).rows ≡ count_of w
  count = shown_count w s layout

  pub short : (i : ℕ) → i < count_of w → {x : List ℕ} → x ≡ suffix_at (table_of w s) i → length x ≤ 128
  short i h e = rw e (suffix_short w s layout i (omega (arith, count)))

  -- the first rows and one more
  pub next_row :
      (i : ℕ) → i < count_of w → {x : List ℕ} {p : Pair} → x ≡ suffix_at (table_of w s) i → p ≡ pair_at (table_of w s) i
      → rows_lines (take i (table_of w s).rows) ++ (pair_line x p ++ key_lines p.keys) ≡ rows_lines (take (i + 1) (table_of w s).rows)
  next_row i h = rows_next (table_of w s) i (omega (arith, count))

  -- all rows
  pub all_rows : (i : ℕ) → count_of w ≤ i → rows_lines (take i (table_of w s).rows) ≡ rows_lines (table_of w s).rows
  all_rows i h = ap rows_lines (take_all i (table_of w s).rows (omega (arith, count)))

  -- the clock's line and the rows
  pub whole : clock_line (clock_of w) (floor_of w) ++ rows_lines (table_of w s).rows ≡ listing (table_of w s)
  unfolding listing laid_table
  whole =
      let f : (table_of w s).floor ≡ floor_of w = ap (λ (t : Table). t.floor) (shown w s layout) in
      rw (shown_clock w s layout, f) refl

  pub whole_length : length (listing (table_of w s)) ≡ length (clock_line (clock_of w) (floor_of w)) + length (rows_lines (table_of w s).rows)
  whole_length = ap length (sym whole) ∙ length-append (clock_line (clock_of w) (floor_of w)) (rows_lines (table_of w s).rows)
