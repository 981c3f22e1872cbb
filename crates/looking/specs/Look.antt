-- What a look knows once TABLE is passed. Assumes nothing.
use Rattle.std.specs.Prelude.{ℕ, ◌<◌, true, List, ◌≡◌, length}
use Rattle.model.specs.Tables.{pair_at, pair_rule}
use Rattle.store.specs.Layout.{layout_rule, table_of}

-- The lent table's layout is sound, and each pair keeps its rules.
pub record Sound (w s : List ℕ) : Type 0 where
  pub layout : layout_rule w s ≡ true
  pub rule : (i : ℕ) → i < length (table_of w s).rows → pair_rule (table_of w s).clock (pair_at (table_of w s) i) ≡ true
