-- What a message call on a lent table ends with: its words are w at entry and w' at exit, its octets s, its reply buffer b and b', and it answers a. Assumes
-- nothing.
use Rattle.std.specs.Prelude.{ℕ, ◌+◌, ◌<◌, List, [], ◌≡◌, length, drop, Option, None, Some}
use Rattle.model.specs.declared.Answer.{Answer}
use Rattle.model.specs.Tables.{Table, pair_at, suffix_at, with_pair}
use Rattle.model.specs.Calls.{DONE, TABLE, Result, buffer_after}
use Rattle.step.specs.declared.Step.{Step}
use Rattle.step.specs.Steps.{pair_after}
use Rattle.store.specs.Layout.{table_of}
use Rattle.outcomes.specs.Ends.{Own}
use Rattle.judging.specs.declared.Owner.{Owner}

-- No word changes but the clock's and those of the pair in this row; of no pair, but the clock's.
abbrev pub OwnOf : Option ℕ → List ℕ → List ℕ → Type 0
OwnOf None w w' = drop 1 w' ≡ drop 1 w
OwnOf (Some row) w w' = Own row w w'

-- THE MESSAGE CALL, whose definition on a table is `call`, of the pair in the row `own`.
pub record Answered (call : Table → Result) (own : Option ℕ) (w s w' b b' : List ℕ) (a : Answer) : Type 0 where
  -- the table that is shown at exit, the answer and the buffer are those of the definition for the table that is shown at entry
  pub shows : table_of w' s ≡ (call (table_of w s)).table
  pub answers : a ≡ (call (table_of w s)).outcome.answer
  pub replies : b' ≡ buffer_after (call (table_of w s)) b
  -- TABLE leaves every word, and every other refusal every word but the clock's
  pub table : a.number ≡ TABLE → w' ≡ w
  pub refused : (a.number ≡ DONE → ⊥) → drop 1 w' ≡ drop 1 w
  -- a call that is done changes the clock and its own row
  pub kept : OwnOf own w w'

-- The rest of it, behind the gate: a refusal leaves every word.
pub record AnsweredRest (call : Table → Result) (own : Option ℕ) (w s w' b b' : List ℕ) (a : Answer) : Type 0 where
  pub shows : table_of w' s ≡ (call (table_of w s)).table
  pub answers : a ≡ (call (table_of w s)).outcome.answer
  pub replies : b' ≡ buffer_after (call (table_of w s)) b
  pub refused : (a.number ≡ DONE → ⊥) → w' ≡ w
  pub passed : a.number ≡ TABLE → ⊥
  pub kept : OwnOf own w w'

-- The pair of a row after a step: a refusal leaves every word.
pub record RowKept (row : ℕ) (x : Step) (w s w' : List ℕ) (a : Answer) : Type 0 where
  pub answers : a ≡ x.answer
  pub refused : (a.number ≡ DONE → ⊥) → w' ≡ w
  pub finished : a.number ≡ DONE → table_of w' s ≡ with_pair (table_of w s) row (pair_after (pair_at (table_of w s) row) x.after)
  pub kept : Own row w w'

-- ── What a search found ─────────────────────────────────────────────────────────────────────────────────────────────

abbrev pub FoundIn : Table → Option ℕ → Type 0
FoundIn t (Some row) = row < length t.rows
FoundIn t None = Unit {0}

-- The pair of the row, with its number, and its suffix.
abbrev pub owner_as : Table → Option ℕ → Option Owner
owner_as t (Some row) = Some (record { number = (row + 1); pair = (pair_at t row) })
owner_as t None = None

abbrev pub suffix_as : Table → Option ℕ → List ℕ
suffix_as t (Some row) = suffix_at t row
suffix_as t None = []

-- After a step on it: of no row, every word is left.
abbrev pub KeptBy : Option ℕ → Step → List ℕ → List ℕ → List ℕ → Answer → Type 0
KeptBy (Some row) x w s w' a = RowKept row x w s w' a
KeptBy None x w s w' a = (a ≡ x.answer) × (w' ≡ w)

pub record Kept (found : Option ℕ) (x : Step) (w s w' : List ℕ) (a : Answer) : Type 0 where
  pub says : KeptBy found x w s w' a
