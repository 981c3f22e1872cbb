-- What the code keeps of a pair's lines, as the definitions have it. Assumes nothing.
use Rattle.std.specs.Prelude.{ℕ, ◌≤◌, ◌<◌, ◌≡◌, List, map, ltb, length, take, Option, None, Some, Result, Ok, Err}
use Rattle.model.specs.declared.Pair.{Pair}
use Rattle.model.specs.declared.Stated.{Stated}
use Rattle.model.specs.Tables.{is_none, row_named}
use Rattle.model.specs.Checks.{check}
use Rattle.model.specs.Calls.{TWIN, FULL}
use Rattle.model.specs.Loading.{Entry, unread, says, Judged, keeps, drops, judged}
use Rattle.model.proofs.Forward.{entry_begun, entry_added}
use Rattle.store.specs.Layout.{clock_of, count_of, table_of}
use Rattle.store.specs.Stored.{Gap}
use Rattle.inserting.specs.Insert.{Ready}
use Rattle.lines.specs.Read.{pair_shown}
use Rattle.entries.specs.declared.Open.{Open}
use Rattle.entries.specs.declared.Open.TheVariants.{Unread, Wrong, Says}
use Rattle.entries.specs.declared.Kept.{Kept}

-- ── What the lines say ──────────────────────────────────────────────────────────────────────────────────────────────

-- What the lines of a pair say so far, its suffix at the front of these octets; and how many octets that takes.
abbrev pub entry_shown : List ℕ → Open → Entry
entry_shown s Unread = unread
entry_shown s (Wrong n) = says (take n s) None
entry_shown s (Says n p) = says (take n s) (Some p)

abbrev pub open_size : Open → ℕ
open_size Unread = 0
open_size (Wrong n) = n
open_size (Says n p) = n

-- A `key` line more; its suffix is where it was.
pub record KeyAdded (said : Open) (line : Option Stated) (r : Open) : Type 0 where
  pub adds : (s : List ℕ) → entry_shown s r ≡ entry_added (entry_shown s said) line
  pub size : open_size r ≤ open_size said

-- The line that starts a pair; its suffix is at the front of the octets that it was written to.
pub record Begun (line : Option (ℕ × Pair)) (r : Open) : Type 0 where
  pub begins : (s : List ℕ) → entry_shown s r ≡ entry_begun (pair_shown s line)
  pub size : (m : ℕ) → ((p : ℕ × Pair) → line ≡ Some p → p.0 ≤ m) → open_size r ≤ m

-- ── Whether the row is kept ─────────────────────────────────────────────────────────────────────────────────────────

abbrev pub judged_shown : List ℕ → Result Kept ℕ → Judged
judged_shown s (Ok k) = keeps (record { suffix = take k.size s; pair = k.pair })
judged_shown s (Err reason) = drops reason

-- A reason to drop a row comes before whatever else is judged.
abbrev pub placed_shown : Result ℕ ℕ → Judged → Judged
placed_shown (Ok g) rest = rest
placed_shown (Err reason) rest = drops reason

abbrev pub Fitting : List ℕ → List ℕ → List ℕ → Result ℕ ℕ → Type 0
Fitting w s suffix (Ok g) = Gap w s suffix g × (count_of w < 64)
Fitting w s suffix (Err reason) = Unit {0}

-- TWIN and FULL, in front of whatever is judged then.
pub record PlaceFor (w s suffix : List ℕ) (r : Result ℕ ℕ) : Type 0 where
  pub says :
      (rest : Judged)
      → check drops TWIN (is_none (row_named (map (λ r. r.suffix) (table_of w s).rows) suffix)) (check drops FULL (ltb (length (table_of w s).rows) 64) rest)
      ≡ placed_shown r rest
  pub fits : Fitting w s suffix r

-- A row that is kept can be put in, as it is.
abbrev pub Insertable : List ℕ → List ℕ → List ℕ → Result Kept ℕ → Type 0
Insertable w s suffix (Ok k) = (k.size ≤ length suffix) × Ready k.place (take k.size suffix) w s
Insertable w s suffix (Err reason) = Unit {0}

pub record EntryJudged (w s suffix : List ℕ) (e : Entry) (r : Result Kept ℕ) : Type 0 where
  pub says : judged (clock_of w) (table_of w s).rows e ≡ judged_shown suffix r
  pub ready : Insertable w s suffix r
