-- What a search found, as the definitions have it. Assumes nothing.
use Rattle.std.specs.Prelude.{ℕ, zero, suc, ◌+◌, ◌-◌, ◌/◌, cond, List, ◌≡◌, ltb, Result, Ok, Err}
use Rattle.std.specs.Result.{result_ok}
use Rattle.model.specs.Tables.{names_of, row_named}
use Rattle.std.specs.declared.cmp.Ordering.{Ordering}
use Rattle.std.specs.declared.cmp.Ordering.TheVariants.{Less, Equal, Greater}
use Rattle.ordering.specs.Order.{order_of}
use Rattle.store.specs.Layout.{count_of, row_in, suffix_in, table_of}
use Rattle.store.specs.Stored.{Gap}

-- By the order of the suffix in the middle and the name.
abbrev pub by_order : Ordering → Result ℕ ℕ → Result ℕ ℕ → Result ℕ ℕ → Result ℕ ℕ
by_order Less up here down = up
by_order Equal up here down = here
by_order Greater up here down = down

-- Halving the places from `low` up to `high`: each comparison takes one of n.
unfoldable pub halved : List ℕ → (ℕ → Ordering) → ℕ → ℕ → ℕ → Result ℕ ℕ
halved w order zero low high = Err low
halved w order (suc n) low high =
    cond (ltb low high)
    (by_order (order (low + (high - low) / 2))
    (halved w order n (low + (high - low) / 2 + 1) high)
    (Ok (row_in w (low + (high - low) / 2)))
    (halved w order n low (low + (high - low) / 2)))
    (Err low)

-- The row that the definitions find; or the place where a row of this name belongs. 02, CR 11: "find a suffix, or that it is missing, by comparing at most
-- seven rows".
pub record Sought (w s name : List ℕ) (r : Result ℕ ℕ) : Type 0 where
  pub says : row_named (names_of (table_of w s)) name ≡ result_ok r
  pub gap : (g : ℕ) → r ≡ Err g → Gap w s name g
  pub seven : r ≡ halved w (λ q. order_of (suffix_in w s q) name) 7 0 (count_of w)
