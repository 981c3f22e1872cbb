-- What a call for C leaves: the words of its answer, the number that it returns, and the lent table. Assumes nothing.
use Rattle.std.specs.Prelude.{ℕ, List, Bool, ◌≡◌, drop, Option}
use Rattle.model.specs.declared.Answer.{Answer}
use Rattle.model.specs.Tables.{Table}
use Rattle.model.specs.Judging.{Given}
use Rattle.model.specs.Calls.{DONE, TABLE, Result, new_table, buffer_after}
use Rattle.store.specs.Layout.{table_of}
use Rattle.results.specs.Words.{answer_words}
use Rattle.server.specs.Serve.{OwnOf}

-- What a message call is handed.
abbrev pub handed : ℕ → Bool → List ℕ → Bool → List ℕ → Given
handed time good offer fits second = record { now = time; good = good; offer = offer; fits = fits; second = second }

-- The answer a is told: its words are written, and its number is returned.
pub record Told (a : Answer) (words : List ℕ) (r : ℕ) : Type 0 where
  pub written : words ≡ answer_words a
  pub returned : r ≡ a.number

-- A call on the table that the words w and the octets s show. At exit they are w' and s', and the number r is returned.
pub record Lent (call : Table → Result) (w s w' s' words : List ℕ) (r : ℕ) : Type 0 where
  -- the table and the answer are those of the definition
  pub table : table_of w' s' ≡ (call (table_of w s)).table
  pub told : Told (call (table_of w s)).outcome.answer words r
  -- TABLE leaves every word and every octet; every other refusal too, but for the clock's word
  pub kept : r ≡ TABLE → (w' ≡ w) × (s' ≡ s)
  pub refused : (r ≡ DONE → ⊥) → (drop 1 w' ≡ drop 1 w) × (s' ≡ s)

pub record NewLent (time : ℕ) (w s w' words : List ℕ) (r : ℕ) : Type 0 where
  pub table : table_of w' s ≡ (new_table (table_of w s) time).table
  pub told : Told (new_table (table_of w s) time).outcome.answer words r
  pub refused : (r ≡ DONE → ⊥) → w' ≡ w

-- The message call, of the pair in the row `own`: its reply buffer is b at entry and b' at exit.
pub record MessageLent (call : Table → Result) (own : Option ℕ) (w s w' b b' words : List ℕ) (r : ℕ) : Type 0 where
  pub table : table_of w' s ≡ (call (table_of w s)).table
  pub told : Told (call (table_of w s)).outcome.answer words r
  pub reply : b' ≡ buffer_after (call (table_of w s)) b
  -- TABLE leaves every word, every other refusal every word but the clock's, and a call that is done changes the clock and its own row
  pub kept : r ≡ TABLE → w' ≡ w
  pub refused : (r ≡ DONE → ⊥) → drop 1 w' ≡ drop 1 w
  pub own_row : OwnOf own w w'
