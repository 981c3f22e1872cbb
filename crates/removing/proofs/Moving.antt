-- What the steps of a removal leave, word by word. Assumes nothing.
use Prim.Native.Nat.{ℕ, ◌+◌, ◌-◌, ◌*◌, ◌≤◌, ◌<◌, max}
use mathlib.Core.List.{List}
use mathlib.Core.Logic.{◌⊎◌, inl, inr}
use mathlib.Core.Path.{◌≡◌, refl, ap, ◌∙◌}
use native.Mathlib.Decide.{dec_lt, ℕ_discrete}
use native.Mathlib.Omega.{arith}
use borrow.Author.Tests.{lt-ltb, le-ltb}
use lib.ListN.{length, get_or, set, length-set}
use lib.Seq.{get_or-set_same, get_or-set_other}
use borrow.Rule.Slice.PartMut.{put_mid}
use Rattle.std.specs.List.{CopiedTo, SameBelow, SameFrom}
use Rattle.store.specs.Layout.{floor_of, place_of, row_in}
use Rattle.inserting.specs.Insert.{up_from}
use Rattle.inserting.proofs.Moving.{Partly, up_low, up_high, before_part, in_part, after_part, part_size}
use Rattle.removing.specs.Remove.{down_from, MovedDown, Remapped, Renumbered, Closed, Headed}

-- ── Where a number goes ─────────────────────────────────────────────────────────────────────────────────────────────

module _ {g x : ℕ} where
  pub down_low : x ≤ g → down_from g x ≡ x
  unfolding down_from
  down_low h = simp (le-ltb g x h)

  pub down_high : g < x → down_from g x ≡ x - 1
  unfolding down_from
  down_high h = simp (lt-ltb g x h)

-- ── What was copied, and a turn of each loop ────────────────────────────────────────────────────────────────────────

pub moved_down :
    {from to by : ℕ} {b b' : List ℕ} {start end : ℕ}
    → length b' ≡ length b
    → from ≤ to
    → start ≡ from + by
    → end ≡ to + by
    → CopiedTo b b' start from (end - start)
    → SameBelow b b' from
    → SameFrom b b' (from + (end - start))
    → MovedDown from to by b b'
moved_down {from} {to} {by} {b} {b'} {start} {end} size up s e copied below after = record {
  size = size;
  moved = λ i h g. let z : start + (i - from) ≡ i + by = omega arith in copied i 0 h (omega arith) ∙ rw z refl;
  kept = λ i h. kept i h;
}
  where
    kept : (i : ℕ) → (i < from) ⊎ (to ≤ i) → get_or b' i 0 ≡ get_or b i 0
    kept i (inl h) = below i 0 h
    kept i (inr h) = after i 0 (omega arith)

pub remapped :
    {p n : ℕ} {w : List ℕ} (k : ℕ) (v : List ℕ)
    → 3 + n ≤ length w
    → k ≡ n
    → length v ≡ n
    → Partly (down_from p) (place_of w) n n v
    → Remapped p n w (put_mid 3 k w v)
remapped {p} {n} {w} k v room same long d = record {
  size = part_size 3 k w v (omega arith) (omega arith);
  places = λ i h. in_part 3 k w v (omega arith) (omega arith) i (omega arith) ∙ d.done i h;
  kept = λ i h. kept i h;
}
  where
    kept : (i : ℕ) → (i < 3) ⊎ (3 + n ≤ i) → get_or (put_mid 3 k w v) i 0 ≡ get_or w i 0
    kept i (inl h) = before_part 3 k w v (omega arith) (omega arith) i h
    kept i (inr h) = after_part 3 k w v (omega arith) (omega arith) i (omega arith)

pub renumbered_none : (r : ℕ) (w : List ℕ) → Renumbered r 0 w w
renumbered_none r w = record { size = refl; rows = λ q h. absurd (omega arith); later = λ q h. refl; head = λ i h. refl; rest = λ q k h l. refl }

pub renumbered_more : {r n x : ℕ} {w v : List ℕ} → 67 + n * 16 < length w → x ≡ down_from r (row_in v n) → Renumbered r n w v → Renumbered r (n + 1) w (set v (67 + n * 16) x)
renumbered_more {r} {n} {x} {w} {v} room e m = record {
  size = length-set v (67 + n * 16) x ∙ m.size;
  rows = λ q h. row q h (ℕ_discrete q n);
  later = λ q h. get_or-set_other v (67 + n * 16) (67 + q * 16) x 0 (λ k. omega arith) ∙ m.later q (omega arith);
  head = λ i h. get_or-set_other v (67 + n * 16) i x 0 (λ k. omega arith) ∙ m.head i h;
  rest = λ q k h l. get_or-set_other v (67 + n * 16) (67 + q * 16 + k) x 0 (λ z. omega arith) ∙ m.rest q k h l;
}
  where
    row : (q : ℕ) → q < n + 1 → Dec (q ≡ n) → row_in (set v (67 + n * 16) x) q ≡ down_from r (row_in w q)
    row q h (yes k) = rw k (get_or-set_same v (67 + n * 16) x 0 (omega (arith, m.size)) ∙ e ∙ ap (down_from r) (m.later n (omega arith)))
    row q h (no k) = get_or-set_other v (67 + n * 16) (67 + q * 16) x 0 (λ z. k (omega arith)) ∙ m.rows q (omega arith)

-- ── The place and the row are closed ────────────────────────────────────────────────────────────────────────────────

module _
    {p r n : ℕ} {w a b c w' : List ℕ} (few : n < 64) (low : p ≤ n) (in-it : r ≤ n)
    (m : MovedDown (67 + p * 16) (67 + n * 16) 16 w a) (o : MovedDown (3 + r) (3 + n) 1 a b) (e : Remapped p n b c) (f : Renumbered r n c w') where
  -- a word of a place, before the rows are numbered anew
  word : (q k : ℕ) → q < n → k < 16 → get_or c (67 + q * 16 + k) 0 ≡ get_or w (67 + up_from p q * 16 + k) 0
  word q k h l = e.kept (67 + q * 16 + k) (inr (omega arith)) ∙ o.kept (67 + q * 16 + k) (inr (omega arith)) ∙ go (dec_lt q p)
    where
      go : Dec (q < p) → get_or a (67 + q * 16 + k) 0 ≡ get_or w (67 + up_from p q * 16 + k) 0
      go (yes y) = rw (up_low y) (m.kept (67 + q * 16 + k) (inl (omega arith)))
      go (no y) =
          let z : 67 + (q + 1) * 16 + k ≡ 67 + q * 16 + k + 16 = omega arith in
          rw (up_high {g = p} {q = q} (omega arith), z) (m.moved (67 + q * 16 + k) (omega arith) (omega arith))

  -- a place of the map, before the places are
  mapped : (i : ℕ) → i < n → place_of b i ≡ place_of w (up_from r i)
  mapped i h = go (dec_lt i r)
    where
      go : Dec (i < r) → place_of b i ≡ place_of w (up_from r i)
      go (yes y) = rw (up_low y) (o.kept (3 + i) (inl (omega arith)) ∙ m.kept (3 + i) (inl (omega arith)))
      go (no y) =
          let z : 3 + (i + 1) ≡ 3 + i + 1 = omega arith in
          rw (up_high {g = r} {q = i} (omega arith), z) (o.moved (3 + i) (omega arith) (omega arith) ∙ m.kept (3 + i + 1) (inl (omega arith)))

  pub closed : Closed p r n w w'
  closed = record {
    size = f.size ∙ e.size ∙ o.size ∙ m.size;
    head = λ i h. f.head i (omega arith) ∙ e.kept i (inl h) ∙ o.kept i (inl (omega arith)) ∙ m.kept i (inl (omega arith));
    places = λ i h. f.head (3 + i) (omega arith) ∙ e.places i h ∙ ap (down_from p) (mapped i h);
    rows = λ q h. f.rows q h ∙ ap (down_from r) (first q h);
    rest = λ q k h l g. f.rest q k l g ∙ word q k h g;
  }
    where
      first : (q : ℕ) → q < n → row_in c q ≡ row_in w (up_from p q)
      first q h =
          let x : 67 + q * 16 + 0 ≡ 67 + q * 16 = omega arith in
          let y : 67 + up_from p q * 16 + 0 ≡ 67 + up_from p q * 16 = omega arith in
          rw (x, y) at (word q 0 h (omega arith))

-- ── The count and the floor ─────────────────────────────────────────────────────────────────────────────────────────

module _ {p n x : ℕ} {w : List ℕ} (long : length w ≡ 1091) (is : x ≡ max (floor_of w) (get_or w (71 + p * 16) 0)) where
  pub headed : Headed p n w (set (set w 1 n) 2 x)
  headed = record {
    size = length-set (set w 1 n) 2 x ∙ length-set w 1 n;
    clock = get_or-set_other (set w 1 n) 2 0 x 0 (λ e. omega arith) ∙ get_or-set_other w 1 0 n 0 (λ e. omega arith);
    count = get_or-set_other (set w 1 n) 2 1 x 0 (λ e. omega arith) ∙ get_or-set_same w 1 n 0 (omega arith);
    floor = get_or-set_same (set w 1 n) 2 x 0 (simp length-set (omega arith)) ∙ is;
    kept = λ i h. get_or-set_other (set w 1 n) 2 i x 0 (λ e. omega arith) ∙ get_or-set_other w 1 i n 0 (λ e. omega arith);
  }
