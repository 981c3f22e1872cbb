-- What the table is after a removal, through the view, and that the layout rule is kept. Assumes nothing.
use Prim.Native.Nat.{ℕ, zero, suc, ◌+◌, ◌-◌, ◌*◌, ◌≤◌, ◌<◌, max}
use mathlib.Core.Bool.{true}
use mathlib.Core.List.{List, ◌++◌}
use mathlib.Core.Logic.{inl}
use mathlib.Core.Path.{◌≡◌, refl, sym, ap, ◌∙◌}
use native.Mathlib.Decide.{dec_lt}
use native.Mathlib.Omega.{arith}
use lib.ListN.{length, get_or, take, drop, length-append, length-drop, get_or-append}
use lib.Seq.{ext_get_or, length-take-le, get_or-take, get_or-drop, get_or-append-add}
use Rattle.model.specs.Tables.{Row, Table, no_row, row_at, pair_at}
use Rattle.model.specs.Calls.{without_row}
use Rattle.std.specs.Ordering.{is_lt}
use Rattle.store.specs.Layout.{count_of, floor_of, place_of, row_in, length_in, pair_start, pair_from, pair_in, suffix_in, laid_table, keys_known, order_rule, layout_rule}
use Rattle.store.proofs.Codec.{known_ext, pair_at_ext}
use Rattle.store.proofs.Laid.{Laid, laid, lays, ascends, shows}
use Rattle.store.proofs.Storing.{row_from, row_of, rows_length, row_by}
use Rattle.inserting.specs.Insert.{up_from}
use Rattle.inserting.proofs.Moving.{up_low, up_high}
use Rattle.inserting.proofs.Inserting.{part_ext, up_most, up_apart}
use Rattle.removing.specs.Remove.{down_from, MovedDown, Closed, Headed, Removed}
use Rattle.removing.proofs.Moving.{down_low, down_high}

-- ── What the rule says of the lengths ───────────────────────────────────────────────────────────────────────────────

pub record Sizes (w s : List ℕ) (row : ℕ) : Type 0 where
  pub words : length w ≡ 1091
  pub octets : length s ≡ 8192
  pub few : count_of w ≤ 64
  pub lands : place_of w row < count_of w

pub sizes : {w s : List ℕ} {row : ℕ} → layout_rule w s ≡ true → row < count_of w → Sizes w s row
sizes {w} {s} {row} rule low = let l = laid w s rule in record { words = l.words; octets = l.octets; few = l.few; lands = (l.at row low).lands }

-- ── Down and up again ───────────────────────────────────────────────────────────────────────────────────────────────

module _ (g : ℕ) where
  down_up : (i : ℕ) → down_from g (up_from g i) ≡ i
  down_up i = go (dec_lt i g)
    where
      go : Dec (i < g) → down_from g (up_from g i) ≡ i
      go (yes a) = rw (up_low a) (down_low (omega arith))
      go (no a) =
          let e : i + 1 - 1 ≡ i = omega arith in
          rw (up_high {g = g} {q = i} (omega arith)) (down_high (omega arith) ∙ e)

  up_down : (x : ℕ) → (x ≡ g → ⊥) → up_from g (down_from g x) ≡ x
  up_down x o = go (dec_lt g x) (dec_lt x g)
    where
      go : Dec (g < x) → Dec (x < g) → up_from g (down_from g x) ≡ x
      go (yes a) d =
          let e : x - 1 + 1 ≡ x = omega arith in
          rw (down_high a) (up_high (omega arith) ∙ e)
      go (no a) (yes b) = rw (down_low {g = g} {x = x} (omega arith)) (up_low b)
      go (no a) (no b) = absurd (o (omega arith))

  -- a number below n + 1 that is not the closed one becomes one below n
  down_below : (n x : ℕ) → g ≤ n → x < n + 1 → (x ≡ g → ⊥) → down_from g x < n
  down_below n x l h o = go (dec_lt g x) (dec_lt x g)
    where
      go : Dec (g < x) → Dec (x < g) → down_from g x < n
      go (yes a) d = rw (down_high a) (omega arith)
      go (no a) (yes b) = rw (down_low {g = g} {x = x} (omega arith)) (omega arith)
      go (no a) (no b) = absurd (o (omega arith))

  up_rises : (q : ℕ) → up_from g q < up_from g (suc q)
  up_rises q = go (dec_lt q g) (dec_lt (suc q) g)
    where
      go : Dec (q < g) → Dec (suc q < g) → up_from g q < up_from g (suc q)
      go (yes a) (yes b) = omega (arith, up_low a, up_low b)
      go (yes a) (no b) = omega (arith, up_low a, up_high {g = g} {q = suc q} (omega arith))
      go (no a) (yes b) = absurd (omega arith)
      go (no a) (no b) = omega (arith, up_high {g = g} {q = q} (omega arith), up_high {g = g} {q = suc q} (omega arith))

-- an element of a list that lacks the one at g
pub without_at : {A : Type 0} (l : List A) (g i : ℕ) (d : A) → g < length l → get_or (take g l ++ drop (suc g) l) i d ≡ get_or l (up_from g i) d
without_at {A} l g i d h = go (dec_lt i g)
  where
    long : length (take g l) ≡ g
    long = length-take-le g l (omega arith)

    go : Dec (i < g) → get_or (take g l ++ drop (suc g) l) i d ≡ get_or l (up_from g i) d
    go (yes a) = rw (up_low a) (get_or-append (take g l) (drop (suc g) l) d i (omega (arith, long)) ∙ get_or-take g l i d a)
    go (no a) =
        let e : i ≡ length (take g l) + (i - g) = omega (arith, long) in
        let f : suc g + (i - g) ≡ i + 1 = omega arith in
        ap (λ (k : ℕ). get_or (take g l ++ drop (suc g) l) k d) e
        ∙ get_or-append-add (take g l) (drop (suc g) l) (i - g) d
        ∙ get_or-drop (suc g) l (i - g) d
        ∙ ap (λ (k : ℕ). get_or l k d) (f ∙ sym (up_high {g = g} {q = i} (omega arith)))

-- ── The new store ───────────────────────────────────────────────────────────────────────────────────────────────────

module _
    (row n : ℕ) (w s v w' s' : List ℕ) (ok : layout_rule w s ≡ true) (left : n + 1 ≡ count_of w) (there : row < count_of w)
    (a : MovedDown (place_of w row * 128) (n * 128) 128 s s') (h : Headed (place_of w row) n w v) (c : Closed (place_of w row) row n v w') where
  l : Laid w s
  l = laid w s ok

  low : place_of w row ≤ n
  low = omega (arith, (l.at row there).lands)

  few : n < 64
  few = omega (arith, l.few)

  count' : count_of w' ≡ n
  count' = c.head 1 (omega arith) ∙ h.count

  -- a place of the map, a row number and any other word of a row, and where each comes from
  place_at : (i : ℕ) → i < n → place_of w' i ≡ down_from (place_of w row) (place_of w (up_from row i))
  place_at i k = c.places i k ∙ ap (down_from (place_of w row)) (h.kept (3 + up_from row i) (omega arith))

  row_at_lem : (q : ℕ) → q < n → row_in w' q ≡ down_from row (row_in w (up_from (place_of w row) q))
  row_at_lem q k = c.rows q k ∙ ap (down_from row) (h.kept (67 + up_from (place_of w row) q * 16) (omega arith))

  word : (q k i j : ℕ) → q < n → 1 ≤ k → k < 16 → i ≡ 67 + q * 16 + k → j ≡ 67 + up_from (place_of w row) q * 16 + k → get_or w' i 0 ≡ get_or w j 0
  word q k i j z x y ei ej =
      ap (λ (x : ℕ). get_or w' x 0) ei ∙ c.rest q k z x y ∙ h.kept (67 + up_from (place_of w row) q * 16 + k) (omega arith) ∙ sym (ap (λ (x : ℕ). get_or w x 0) ej)

  module _ (q : ℕ) (k : q < n) where
    inside : up_from (place_of w row) q < count_of w
    inside = omega (arith, up_most (place_of w row) q)

    length_at : length_in w' q ≡ length_in w (up_from (place_of w row) q)
    length_at = word q 1 _ _ k (omega arith) (omega arith) (omega arith) (omega arith)

    pair_at_lem : pair_in w' q ≡ pair_in w (up_from (place_of w row) q)
    pair_at_lem = pair_at_ext w' w q (up_from (place_of w row) q) (λ j d. word q (2 + j) _ _ k (omega arith) (omega arith) (omega arith) (omega arith))

    known_at : keys_known w' (pair_start q + 3) ≡ true
    known_at =
        known_ext w' w (pair_start q) (pair_start (up_from (place_of w row) q)) (λ j d. word q (2 + j) _ _ k (omega arith) (omega arith) (omega arith) (omega arith))
        ∙ (l.at (up_from (place_of w row) q) inside).known

    octet : (j : ℕ) → j < 128 → get_or s' (q * 128 + j) 0 ≡ get_or s (up_from (place_of w row) q * 128 + j) 0
    octet j d = go (dec_lt q (place_of w row))
      where
        go : Dec (q < place_of w row) → get_or s' (q * 128 + j) 0 ≡ get_or s (up_from (place_of w row) q * 128 + j) 0
        go (yes y) = rw (up_low y) (a.kept (q * 128 + j) (inl (omega arith)))
        go (no y) =
            let e : (q + 1) * 128 + j ≡ q * 128 + j + 128 = omega arith in
            rw (up_high {g = place_of w row} {q = q} (omega arith), e) (a.moved (q * 128 + j) (omega arith) (omega arith))

    suffix_at_lem : suffix_in w' s' q ≡ suffix_in w s (up_from (place_of w row) q)
    unfolding suffix_in
    suffix_at_lem =
        let short = (l.at (up_from (place_of w row) q) inside).short in
        rw length_at
        (part_ext s' s (q * 128) (up_from (place_of w row) q * 128) (length_in w (up_from (place_of w row) q)) (omega (arith, a.size, l.octets, few)) (omega (arith, l.octets, l.few, inside))
        (λ j d. octet j (omega arith)))

    -- the row at this place was not the closed one
    row_other : row_in w (up_from (place_of w row) q) ≡ row → ⊥
    row_other e = up_apart (place_of w row) q (sym (l.at (up_from (place_of w row) q) inside).mapped ∙ ap (place_of w) e)

    row_up : up_from row (row_in w' q) ≡ row_in w (up_from (place_of w row) q)
    row_up = ap (up_from row) (row_at_lem q k) ∙ up_down row (row_in w (up_from (place_of w row) q)) row_other

    row_less : row_in w' q < n
    row_less = rw (row_at_lem q k) (down_below row n (row_in w (up_from (place_of w row) q)) (omega arith) (omega (arith, (l.at (up_from (place_of w row) q) inside).enrolled)) row_other)

  module _ (i : ℕ) (k : i < n) where
    enrolled : up_from row i < count_of w
    enrolled = omega (arith, up_most row i)

    -- the place of this row was not the closed one's
    place_other : place_of w (up_from row i) ≡ place_of w row → ⊥
    place_other e = up_apart row i (sym (l.at (up_from row i) enrolled).named ∙ ap (row_in w) e ∙ (l.at row there).named)

    place_up : up_from (place_of w row) (place_of w' i) ≡ place_of w (up_from row i)
    place_up = ap (up_from (place_of w row)) (place_at i k) ∙ up_down (place_of w row) (place_of w (up_from row i)) place_other

    place_less : place_of w' i < n
    place_less = rw (place_at i k) (down_below (place_of w row) n (place_of w (up_from row i)) low (omega (arith, (l.at (up_from row i) enrolled).lands)) place_other)

    row_from_lem : row_from w' s' i ≡ row_from w s (up_from row i)
    row_from_lem =
        row_by (suffix_at_lem (place_of w' i) place_less ∙ ap (suffix_in w s) place_up) (pair_at_lem (place_of w' i) place_less ∙ ap (pair_in w) place_up)

  -- ── The table ─────────────────────────────────────────────────────────────────────────────────────────────────────

  abbrev rows : List Row
  rows = (laid_table w s).rows

  rows_less : (laid_table w' s').rows ≡ take row rows ++ drop (suc row) rows
  unfolding row_at
  rows_less =
      ext_get_or no_row _ _ (rows_length w' s' ∙ count' ∙ sym many)
      (λ i k.
      let j : i < n = omega (arith, rows_length w' s', count') in
      row_of w' s' i (omega (arith, count')) ∙ row_from_lem i j ∙ sym (without_at rows row i no_row (omega (arith, rows_length w s)) ∙ row_of w s (up_from row i) (enrolled i j)))
    where
      many : length (take row rows ++ drop (suc row) rows) ≡ n
      many = length-append (take row rows) (drop (suc row) rows) ∙ omega (arith, length-take-le row rows (omega (arith, rows_length w s)), length-drop (suc row) rows, rows_length w s)

  -- the floor, with the next serial as the words have it
  floor_up : floor_of w' ≡ max (floor_of w) (pair_at (laid_table w s) row).next_serial
  unfolding pair_at pair_in pair_from
  floor_up =
      let e : 71 + place_of w row * 16 ≡ pair_start (place_of w row) + 2 = omega arith in
      c.head 2 (omega arith) ∙ h.floor ∙ ap (max (floor_of w)) (ap (λ (k : ℕ). get_or w k 0) e ∙ sym (ap (λ (r : Row). r.pair.next_serial) (row_of w s row there)))

  table_less : laid_table w' s' ≡ without_row (laid_table w s) row
  unfolding laid_table without_row
  table_less =
      let t = c.head 0 (omega arith) ∙ h.clock in
      λ k. record { clock = t k; floor = floor_up k; rows = rows_less k }

  -- ── The layout rule ───────────────────────────────────────────────────────────────────────────────────────────────

  order' : (q : ℕ) → q < n → order_rule w' s' q ≡ true
  unfolding order_rule
  order' zero k = refl
  order' (suc q) k =
      let j : q < n = omega arith in
      rw (suffix_at_lem q j, suffix_at_lem (suc q) k) (ap is_lt (ascends l (up_from (place_of w row) q) (up_from (place_of w row) (suc q)) (up_rises (place_of w row) q) (inside (suc q) k)))

  laid' : Laid w' s'
  laid' = record {
    words = c.size ∙ h.size ∙ l.words;
    octets = a.size ∙ l.octets;
    few = omega (arith, count', few);
    at = λ q z.
        let k : q < n = omega (arith, count') in
        let b = l.at (up_from (place_of w row) q) (inside q k) in
        record {
          lands = omega (arith, count', place_less q k);
          named = row_at_lem (place_of w' q) (place_less q k) ∙ ap (λ (x : ℕ). down_from row (row_in w x)) (place_up q k) ∙ ap (down_from row) (l.at (up_from row q) (enrolled q k)).named ∙ down_up row q;
          enrolled = omega (arith, count', row_less q k);
          mapped = place_at (row_in w' q) (row_less q k) ∙ ap (λ (x : ℕ). down_from (place_of w row) (place_of w x)) (row_up q k) ∙ ap (down_from (place_of w row)) b.mapped ∙ down_up (place_of w row) q;
          long = rw (length_at q k) b.long;
          short = rw (length_at q k) b.short;
          known = known_at q k;
          ordered = order' q k;
        };
  }

  pub removed : Removed row w s w' s'
  removed = record {
    table = shows w s w' s' (λ (t : Table). without_row t row) ok (lays w' s' laid') table_less;
    layout = lays w' s' laid';
  }
