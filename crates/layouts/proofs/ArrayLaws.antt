-- What the layout before shows: a row, a row that is stored, a row more, and the search; and that its calls are the definition's. Assumes nothing.
use mathlib.Core.Path.{◌≡◌, refl, sym, ap, ap₂, ◌∙◌}
use mathlib.Core.Bool.{Bool, true, false, cond}
use Rattle.std.specs.Prelude.{Option, None, Some}
use mathlib.Core.List.{List, [], ◌∷◌, ◌++◌, map}
use Prim.Native.Nat.{ℕ, zero, suc, ◌+◌, ◌-◌, ◌*◌, ◌≤◌, ◌<◌, max}
use native.Mathlib.Decide.{dec_lt, ℕ_discrete}
use native.Mathlib.Numerals.{add-one}
use native.Mathlib.Omega.{arith}
use lib.Dec.{leb}
use lib.ListN.{length, get_or, set, take, drop, length-set, length-map, length-append, length-drop, get_or-append}
use lib.Seq.{get_or-set_same, get_or-set_other, ext_get_or, length-take-le, get_or-take, get_or-drop, get_or-append-add}
use borrow.Author.Tests.{leb-true, le-leb}
use Rattle.model.specs.declared.Pair.{Pair}
use Rattle.model.specs.Octets.{part, overlay}
use Rattle.model.specs.Names.{same_name}
use Rattle.model.specs.Tables.{Row, Table, no_pair, no_row, row_at, suffix_at, pair_at, with_clock, with_pair, names_of, named_from, row_named}
use Rattle.model.specs.Calls.{clock_at, with_row, without_row}
use Rattle.model.proofs.Buffers.{overlay_before, overlay_there}
use Rattle.inserting.specs.Insert.{up_from}
use Rattle.inserting.proofs.Moving.{up_low, up_high}
use Rattle.inserting.proofs.Inserting.{part_ext, up_most}
use Rattle.removing.proofs.Removing.{without_at}
use Rattle.layouts.specs.Array.{Array, Sized, suffix_in, row_in, rows_in, view_of, searched, row_of, put_clock, put_pair, put_row, close_up, put_out}

-- ── Rows ────────────────────────────────────────────────────────────────────────────────────────────────────────────

pub rows_length : (t : Array) (n i : ℕ) → length (rows_in t n i) ≡ n
unfolding rows_in
rows_length t zero i = refl
rows_length t (suc n) i = ap suc (rows_length t n (suc i))

rows_from : (t : Array) (n j i : ℕ) → i < n → get_or (rows_in t n j) i no_row ≡ row_in t (j + i)
unfolding rows_in
rows_from t zero j i h = absurd (omega arith)
rows_from t (suc n) j zero h = let e : j ≡ j + 0 = omega arith in ap (row_in t) e
rows_from t (suc n) j (suc i) h = let e : suc j + i ≡ j + suc i = omega arith in rows_from t n (suc j) i (omega arith) ∙ ap (row_in t) e

pub view_at : (t : Array) (i : ℕ) → i < t.count → row_at (view_of t) i ≡ row_in t i
unfolding view_of row_at
view_at t i h = let e : 0 + i ≡ i = omega arith in rows_from t t.count 0 i h ∙ ap (row_in t) e

pub view_pair_at : (t : Array) (i : ℕ) → i < t.count → pair_at (view_of t) i ≡ get_or t.pairs i no_pair
unfolding pair_at row_in
view_pair_at t i h = ap (λ (r : Row). r.pair) (view_at t i h)

-- Arrays whose rows are alike show the same rows.
rows_alike : (t u : Array) (n : ℕ) → ((i : ℕ) → i < n → row_in t i ≡ row_in u i) → rows_in t n 0 ≡ rows_in u n 0
rows_alike t u n f =
    ext_get_or no_row (rows_in t n 0) (rows_in u n 0) (rows_length t n 0 ∙ sym (rows_length u n 0)) λ i h.
    let l : length (rows_in t n 0) ≡ n = rows_length t n 0 in
    let e : 0 + i ≡ i = omega arith in
    rows_from t n 0 i (omega arith) ∙ ap (row_in t) e ∙ f i (omega arith) ∙ sym (rows_from u n 0 i (omega arith) ∙ ap (row_in u) e)

pub view_count : (t : Array) → length (view_of t).rows ≡ t.count
unfolding view_of
view_count t = rows_length t t.count 0

-- Another clock.
pub view_clock : (t : Array) (time : Option ℕ) → view_of (put_clock t time) ≡ clock_at (view_of t) time
unfolding view_of with_clock row_in put_clock suffix_in
view_clock t None = refl
view_clock t (Some time) = ap {B = Table} (λ (l : List Row). record { clock = time; floor = t.floor; rows = l }) (rows_alike (put_clock t (Some time)) t t.count (λ i h. refl))

-- ── A row stored ────────────────────────────────────────────────────────────────────────────────────────────────────

module _ (t : Array) (i : ℕ) (p : Pair) (room : length t.pairs ≡ 64) (few : t.count ≤ 64) (below : i < t.count) where
  abbrev stored : Row
  stored = record { suffix = suffix_in t i; pair = p }

  row_put : row_in (put_pair t i p) i ≡ stored
  unfolding row_in put_pair suffix_in
  row_put = ap {B = Row} (λ q. record { suffix = suffix_in t i; pair = q }) (get_or-set_same t.pairs i p no_pair (omega arith))

  row_kept : (j : ℕ) → ¬ (j ≡ i) → row_in (put_pair t i p) j ≡ row_in t j
  unfolding row_in put_pair suffix_in
  row_kept j n = ap {B = Row} (λ q. record { suffix = suffix_in t j; pair = q }) (get_or-set_other t.pairs i j p no_pair n)

  rows_put : rows_in (put_pair t i p) t.count 0 ≡ set (rows_in t t.count 0) i stored
  rows_put =
      let n = t.count in
      let a : length (rows_in (put_pair t i p) n 0) ≡ n = rows_length (put_pair t i p) n 0 in
      let b : length (rows_in t n 0) ≡ n = rows_length t n 0 in
      ext_get_or no_row (rows_in (put_pair t i p) n 0) (set (rows_in t n 0) i stored) (a ∙ sym (length-set (rows_in t n 0) i stored ∙ b)) λ j h. go j (omega arith) (ℕ_discrete j i)
    where
      go : (j : ℕ) → j < t.count → Dec (j ≡ i) → get_or (rows_in (put_pair t i p) t.count 0) j no_row ≡ get_or (set (rows_in t t.count 0) i stored) j no_row
      go j h (yes e) =
          let b : length (rows_in t t.count 0) ≡ t.count = rows_length t t.count 0 in
          let z : 0 + j ≡ i = omega arith in
          rows_from (put_pair t i p) t.count 0 j h ∙ ap (row_in (put_pair t i p)) z ∙ row_put
          ∙ sym (ap (λ (k : ℕ). get_or (set (rows_in t t.count 0) i stored) k no_row) e ∙ get_or-set_same (rows_in t t.count 0) i stored no_row (omega arith))
      go j h (no n) =
          let z : 0 + j ≡ j = omega arith in
          rows_from (put_pair t i p) t.count 0 j h ∙ ap (row_in (put_pair t i p)) z ∙ row_kept j n
          ∙ sym (get_or-set_other (rows_in t t.count 0) i j stored no_row n ∙ rows_from t t.count 0 j h ∙ ap (row_in t) z)

  suffix_shown_lem : suffix_at (view_of t) i ≡ suffix_in t i
  unfolding suffix_at row_in
  suffix_shown_lem = ap (λ (r : Row). r.suffix) (view_at t i below)

  -- What the code stores is what the view shows.
  pub view_put : view_of (put_pair t i p) ≡ with_pair (view_of t) i p
  unfolding view_of with_pair put_pair
  view_put =
      ap {B = Table} (λ (l : List Row). record { clock = t.clock; floor = t.floor; rows = l })
      (rows_put ∙ ap (λ (s : List ℕ). set (rows_in t t.count 0) i (record { suffix = s; pair = p })) (sym suffix_shown_lem))

-- ── A row more ──────────────────────────────────────────────────────────────────────────────────────────────────────

pub snoc : (t : Array) (n j : ℕ) → rows_in t (suc n) j ≡ rows_in t n j ++ (row_in t (j + n) ∷ [])
unfolding rows_in
snoc t zero j = let e : j ≡ j + 0 = omega arith in ap {B = List Row} (λ (k : ℕ). row_in t k ∷ []) e
snoc t (suc n) j =
    let e : suc j + n ≡ j + suc n = omega arith in
    ap {B = List Row} (λ (l : List Row). row_in t j ∷ l) (snoc t n (suc j) ∙ ap (λ (k : ℕ). rows_in t n (suc j) ++ (row_in t k ∷ [])) e)

module _ (t : Array) (s : List ℕ) (p : Pair) (z : Sized t) (room : t.count < 64) (short : length s ≤ 128) where
  zo : length t.suffixes ≡ 8192
  zo = z.octets

  zs : length t.lengths ≡ 64
  zs = z.sizes

  zp : length t.pairs ≡ 64
  zp = z.slots

  length_kept : (i : ℕ) → i < t.count → get_or (set t.lengths t.count (length s)) i 0 ≡ get_or t.lengths i 0
  length_kept i h = get_or-set_other t.lengths t.count i (length s) 0 (omega arith)

  suffix_kept : (i : ℕ) → i < t.count → suffix_in (put_row t s p) i ≡ suffix_in t i
  unfolding suffix_in put_row
  suffix_kept i h = ap (λ (n : ℕ). cond (leb n 128) (part (overlay s (t.count * 128) t.suffixes) (i * 128) n) []) (length_kept i h) ∙ go (leb (get_or t.lengths i 0) 128) refl
    where
      go : (b : Bool) → leb (get_or t.lengths i 0) 128 ≡ b → cond b (part (overlay s (t.count * 128) t.suffixes) (i * 128) (get_or t.lengths i 0)) [] ≡ cond b (part t.suffixes (i * 128) (get_or t.lengths i 0)) []
      go true e =
          let n : get_or t.lengths i 0 ≤ 128 = leb-true _ _ e in
          let o : length t.suffixes ≡ 8192 = zo in
          overlay_before s t.suffixes (t.count * 128) (i * 128) (get_or t.lengths i 0) (omega arith) (omega arith)
      go false e = refl

  row_kept_too : (i : ℕ) → i < t.count → row_in (put_row t s p) i ≡ row_in t i
  unfolding row_in put_row
  row_kept_too i h = ap₂ {C = Row} (λ (x : List ℕ) (q : Pair). record { suffix = x; pair = q }) (suffix_kept i h) (get_or-set_other t.pairs t.count i p no_pair (omega arith))

  length_put : get_or (set t.lengths t.count (length s)) t.count 0 ≡ length s
  length_put = let n : length t.lengths ≡ 64 = zs in get_or-set_same t.lengths t.count (length s) 0 (omega arith)

  suffix_put : suffix_in (put_row t s p) t.count ≡ s
  unfolding suffix_in put_row
  suffix_put =
      let o : length t.suffixes ≡ 8192 = zo in
      ap (λ (n : ℕ). cond (leb n 128) (part (overlay s (t.count * 128) t.suffixes) (t.count * 128) n) []) length_put
      ∙ ap (λ (b : Bool). cond b (part (overlay s (t.count * 128) t.suffixes) (t.count * 128) (length s)) []) (le-leb (length s) 128 short)
      ∙ overlay_there s t.suffixes (t.count * 128) (omega arith)

  row_added : row_in (put_row t s p) t.count ≡ record { suffix = s; pair = p }
  unfolding row_in put_row
  row_added = let n : length t.pairs ≡ 64 = zp in ap₂ {C = Row} (λ (x : List ℕ) (q : Pair). record { suffix = x; pair = q }) suffix_put (get_or-set_same t.pairs t.count p no_pair (omega arith))

  pub view_row : view_of (put_row t s p) ≡ with_row (view_of t) s p
  unfolding view_of with_row put_row
  view_row =
      let z : 0 + t.count ≡ t.count = omega arith in
      ap {B = Table} (λ (l : List Row). record { clock = t.clock; floor = t.floor; rows = l })
      (ap (λ (k : ℕ). rows_in (put_row t s p) k 0) (add-one t.count)
      ∙ snoc (put_row t s p) t.count 0
      ∙ ap₂ (λ (l : List Row) (r : Row). l ++ (r ∷ [])) (rows_alike (put_row t s p) t t.count row_kept_too) (ap (row_in (put_row t s p)) z ∙ row_added))

-- ── A row less ──────────────────────────────────────────────────────────────────────────────────────────────────────

module _ {A : Type 0} (i n : ℕ) (xs : List A) (fits : i + n ≤ length xs) where
  front : length (take i xs) ≡ i
  front = length-take-le i xs (omega arith)

  pub closed_length : length (close_up i n xs) ≡ length xs
  unfolding close_up
  closed_length =
      length-append (take i xs) (drop (i + n) xs ++ drop (length xs - n) xs)
      ∙ omega (arith, front, length-append (drop (i + n) xs) (drop (length xs - n) xs), length-drop (i + n) xs, length-drop (length xs - n) xs)

  closed_low : (k : ℕ) (d : A) → k < i → get_or (close_up i n xs) k d ≡ get_or xs k d
  unfolding close_up
  closed_low k d h = get_or-append (take i xs) _ d k (omega (arith, front)) ∙ get_or-take i xs k d h

  closed_high : (k : ℕ) (d : A) → i ≤ k → k + n < length xs → get_or (close_up i n xs) k d ≡ get_or xs (k + n) d
  unfolding close_up
  closed_high k d h l =
      let e : k ≡ length (take i xs) + (k - i) = omega (arith, front) in
      let f : i + n + (k - i) ≡ k + n = omega arith in
      ap (λ (j : ℕ). get_or (take i xs ++ (drop (i + n) xs ++ drop (length xs - n) xs)) j d) e
      ∙ get_or-append-add (take i xs) (drop (i + n) xs ++ drop (length xs - n) xs) (k - i) d
      ∙ get_or-append (drop (i + n) xs) (drop (length xs - n) xs) d (k - i) (omega (arith, length-drop (i + n) xs))
      ∙ get_or-drop (i + n) xs (k - i) d
      ∙ ap (λ (j : ℕ). get_or xs j d) f

-- an array of one element for each row
one_out : {A : Type 0} (i j : ℕ) (xs : List A) (d : A) → i < length xs → j + 1 < length xs → get_or (close_up i 1 xs) j d ≡ get_or xs (up_from i j) d
one_out {A} i j xs d h l = go (dec_lt j i)
  where
    go : Dec (j < i) → get_or (close_up i 1 xs) j d ≡ get_or xs (up_from i j) d
    go (yes a) = rw (up_low a) (closed_low i 1 xs (omega arith) j d a)
    go (no a) = rw (up_high {g = i} {q = j} (omega arith)) (closed_high i 1 xs (omega arith) j d (omega arith) (omega arith))

-- the octets, 128 for each
octet_out : (i j k : ℕ) (xs : List ℕ) → length xs ≡ 8192 → i < 64 → j + 1 < 64 → k < 128 → get_or (close_up (i * 128) 128 xs) (j * 128 + k) 0 ≡ get_or xs (up_from i j * 128 + k) 0
octet_out i j k xs long h l c = go (dec_lt j i)
  where
    go : Dec (j < i) → get_or (close_up (i * 128) 128 xs) (j * 128 + k) 0 ≡ get_or xs (up_from i j * 128 + k) 0
    go (yes a) = rw (up_low a) (closed_low (i * 128) 128 xs (omega arith) (j * 128 + k) 0 (omega arith))
    go (no a) =
        let e : (j + 1) * 128 + k ≡ j * 128 + k + 128 = omega arith in
        rw (up_high {g = i} {q = j} (omega arith), e) (closed_high (i * 128) 128 xs (omega arith) (j * 128 + k) 0 (omega arith) (omega arith))

module _ (t : Array) (i : ℕ) (z : Sized t) (few : t.count ≤ 64) (below : i < t.count) where
  module _ (j : ℕ) (h : j < t.count - 1) where
    inside : up_from i j < t.count
    inside = omega (arith, up_most i j)

    suffix_out : suffix_in (put_out t i) j ≡ suffix_in t (up_from i j)
    unfolding suffix_in put_out
    suffix_out =
        ap (λ (n : ℕ). cond (leb n 128) (part (close_up (i * 128) 128 t.suffixes) (j * 128) n) []) (one_out i j t.lengths 0 (omega (arith, z.sizes)) (omega (arith, z.sizes)))
        ∙ go (leb (get_or t.lengths (up_from i j) 0) 128) refl
      where
        go : (b : Bool) → leb (get_or t.lengths (up_from i j) 0) 128 ≡ b → cond b (part (close_up (i * 128) 128 t.suffixes) (j * 128) (get_or t.lengths (up_from i j) 0)) [] ≡ cond b (part t.suffixes (up_from i j * 128) (get_or t.lengths (up_from i j) 0)) []
        go true e =
            let n : get_or t.lengths (up_from i j) 0 ≤ 128 = leb-true _ _ e in
            part_ext (close_up (i * 128) 128 t.suffixes) t.suffixes (j * 128) (up_from i j * 128) (get_or t.lengths (up_from i j) 0)
            (omega (arith, closed_length (i * 128) 128 t.suffixes (omega (arith, z.octets)), z.octets))
            (omega (arith, inside, z.octets))
            (λ k c. octet_out i j k t.suffixes z.octets (omega arith) (omega arith) (omega arith))
        go false e = refl

    row_out : row_in (put_out t i) j ≡ row_in t (up_from i j)
    unfolding row_in put_out
    row_out = ap₂ {C = Row} (λ (x : List ℕ) (q : Pair). record { suffix = x; pair = q }) suffix_out (one_out i j t.pairs no_pair (omega (arith, z.slots)) (omega (arith, z.slots)))

  rows_out : rows_in (put_out t i) (t.count - 1) 0 ≡ take i (rows_in t t.count 0) ++ drop (suc i) (rows_in t t.count 0)
  rows_out =
      let b = rows_length t t.count 0 in
      let a = rows_length (put_out t i) (t.count - 1) 0 in
      ext_get_or no_row _ _ (a ∙ sym many) λ j h.
      let k : j < t.count - 1 = omega arith in
      let e : 0 + j ≡ j = omega arith in
      let f : 0 + up_from i j ≡ up_from i j = omega arith in
      rows_from (put_out t i) (t.count - 1) 0 j k ∙ ap (row_in (put_out t i)) e ∙ row_out j k
      ∙ sym (without_at (rows_in t t.count 0) i j no_row (omega arith) ∙ rows_from t t.count 0 (up_from i j) (inside j k) ∙ ap (row_in t) f)
    where
      many : length (take i (rows_in t t.count 0) ++ drop (suc i) (rows_in t t.count 0)) ≡ t.count - 1
      many =
          let b = rows_length t t.count 0 in
          length-append (take i (rows_in t t.count 0)) (drop (suc i) (rows_in t t.count 0))
          ∙ omega (arith, b, length-take-le i (rows_in t t.count 0) (omega (arith, b)), length-drop (suc i) (rows_in t t.count 0))

  pub view_out : view_of (put_out t i) ≡ without_row (view_of t) i
  unfolding view_of without_row put_out
  view_out =
      ap₂ {C = Table} (λ (f : ℕ) (l : List Row). record { clock = t.clock; floor = f; rows = l })
      (ap (λ (p : Pair). max t.floor p.next_serial) (sym (view_pair_at t i below))) rows_out

-- ── The search ──────────────────────────────────────────────────────────────────────────────────────────────────────

search_from : (t : Array) (name : List ℕ) (n i : ℕ) → searched t name n i ≡ named_from i (map (λ r. r.suffix) (rows_in t n i)) name
unfolding searched named_from rows_in row_in
search_from t name zero i = refl
search_from t name (suc n) i = ap (λ (o : Option ℕ). elim (same_name (suffix_in t i) name) [ true ↦ Some i | false ↦ o ]) (search_from t name n (suc i))

pub search_same : (t : Array) (name : List ℕ) → row_of t name ≡ row_named (names_of (view_of t)) name
unfolding row_of row_named names_of view_of
search_same t name = search_from t name t.count 0

pub names_count : (t : Array) → length (names_of (view_of t)) ≡ t.count
unfolding names_of
names_count t = length-map (view_of t).rows (λ r. r.suffix) ∙ view_count t
