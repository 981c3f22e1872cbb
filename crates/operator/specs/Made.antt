-- A new table in lent words and octets, and a row more. Assumes nothing.
use Rattle.std.specs.Prelude.{ℕ, ◌+◌, Bool, ◌&&◌, List, ◌≡◌, eqb, length}
use Rattle.model.specs.declared.Answer.{Answer}
use Rattle.model.specs.declared.Pair.{Pair}
use Rattle.model.specs.Tables.{Table}
use Rattle.model.specs.Checks.{check}
use Rattle.model.specs.Calls.{DONE, TABLE, Result, done, unchanged, new_table, with_row, first_serial}
use Rattle.store.specs.Layout.{table_of}
use Rattle.outcomes.specs.Ends.{shown}

-- A table can lie in so many words and octets.
unfoldable pub has_room : List ℕ → List ℕ → Bool
has_room w s = eqb (length w) 1091 && eqb (length s) 8192

-- New table, where the table t is shown: TABLE where no table can lie in what is lent.
unfoldable pub new_in : Bool → Table → ℕ → Result
new_in room t time = check (unchanged t) TABLE room (new_table t time)

pub record Made (time : ℕ) (w s w' : List ℕ) (a : Answer) : Type 0 where
  pub says : shown w' s a ≡ new_in (has_room w s) (table_of w s) time
  pub refused : (a.number ≡ DONE → ⊥) → w' ≡ w

-- An enrolment that is done.
pub record RowAdded (suffix : List ℕ) (p : Pair) (w s w' s' : List ℕ) (a : Answer) : Type 0 where
  pub says : shown w' s' a ≡ record { table = with_row (table_of w s) suffix p; outcome = done (length (table_of w s).rows + 1) (first_serial (table_of w s)) }
