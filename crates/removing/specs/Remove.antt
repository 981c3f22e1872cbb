-- A row less in a store: the places above its own move down by one. What each step leaves, word by word, and what the whole leaves, through the view.
-- Assumes nothing.
use Rattle.std.specs.Prelude.{ℕ, ◌+◌, ◌-◌, ◌*◌, ◌≤◌, ◌<◌, max, true, cond, List, ◌⊎◌, ◌≡◌, length, get_or, ltb}
use Rattle.model.specs.Calls.{without_row}
use Rattle.store.specs.Layout.{clock_of, count_of, floor_of, place_of, row_in, layout_rule, table_of}
use Rattle.inserting.specs.Insert.{up_from}

-- What the number x becomes when the number g is closed: those above it are one less. (`up_from` of inserting leads back.)
unfoldable pub down_from : ℕ → ℕ → ℕ
down_from g x = cond (ltb g x) (x - 1) x

-- From `from` up to `to` stand the elements that stood `by` further on; all others are as they were.
pub record MovedDown (from to by : ℕ) (b b' : List ℕ) : Type 0 where
  pub size : length b' ≡ length b
  pub moved : (i : ℕ) → from ≤ i → i < to → get_or b' i 0 ≡ get_or b (i + by) 0
  pub kept : (i : ℕ) → (i < from) ⊎ (to ≤ i) → get_or b' i 0 ≡ get_or b i 0

-- The map of the first n rows, with the place p closed; all other words are as they were.
pub record Remapped (p n : ℕ) (w w' : List ℕ) : Type 0 where
  pub size : length w' ≡ length w
  pub places : (i : ℕ) → i < n → place_of w' i ≡ down_from p (place_of w i)
  pub kept : (i : ℕ) → (i < 3) ⊎ (3 + n ≤ i) → get_or w' i 0 ≡ get_or w i 0

-- The row numbers at the first n places, with the row r closed; no word but a place's first changes.
pub record Renumbered (r n : ℕ) (w w' : List ℕ) : Type 0 where
  pub size : length w' ≡ length w
  pub rows : (q : ℕ) → q < n → row_in w' q ≡ down_from r (row_in w q)
  pub later : (q : ℕ) → n ≤ q → row_in w' q ≡ row_in w q
  pub head : (i : ℕ) → i < 67 → get_or w' i 0 ≡ get_or w i 0
  pub rest : (q k : ℕ) → 1 ≤ k → k < 16 → get_or w' (67 + q * 16 + k) 0 ≡ get_or w (67 + q * 16 + k) 0

-- The place p and the row r are closed, and n rows are left: each word is the one that stood one row or one place further on, where it lay above.
pub record Closed (p r n : ℕ) (w w' : List ℕ) : Type 0 where
  pub size : length w' ≡ length w
  pub head : (i : ℕ) → i < 3 → get_or w' i 0 ≡ get_or w i 0
  pub places : (i : ℕ) → i < n → place_of w' i ≡ down_from p (place_of w (up_from r i))
  pub rows : (q : ℕ) → q < n → row_in w' q ≡ down_from r (row_in w (up_from p q))
  pub rest : (q k : ℕ) → q < n → 1 ≤ k → k < 16 → get_or w' (67 + q * 16 + k) 0 ≡ get_or w (67 + up_from p q * 16 + k) 0

-- The count is n, and the floor is not below the next serial of the pair at the place p.
pub record Headed (p n : ℕ) (w w' : List ℕ) : Type 0 where
  pub size : length w' ≡ length w
  pub clock : clock_of w' ≡ clock_of w
  pub count : count_of w' ≡ n
  pub floor : floor_of w' ≡ max (floor_of w) (get_or w (71 + p * 16) 0)
  pub kept : (i : ℕ) → 3 ≤ i → get_or w' i 0 ≡ get_or w i 0

pub record Removed (row : ℕ) (w s w' s' : List ℕ) : Type 0 where
  pub table : table_of w' s' ≡ without_row (table_of w s) row
  pub layout : layout_rule w' s' ≡ true
