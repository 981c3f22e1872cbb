-- A listing read line by line: the code's own way through the definitions of model's Loading, which `walk_loose` of proofs/Walked ties to them. Assumes nothing.
use Rattle.std.specs.Prelude.{ℕ, suc, ◌+◌, ◌*◌, ◌≤◌, true, false, ◌≡◌, List, [], ◌∷◌, ◌++◌, length, drop, Some, Result, Ok, Err}
use Rattle.model.specs.declared.Clocked.{Clocked}
use Rattle.model.specs.Tables.{Row}
use Rattle.model.specs.Lines.{lines_of, is_key_line, read_pair, read_key}
use Rattle.model.specs.Loading.{Entry, unread, Judged, keeps, drops, judged, Dropped, dropped_from, Kept, dropping, blocks_of, Mended, no_clock, no_rule, no_room, mended, mended_by}
use Rattle.model.proofs.Forward.{entry_begun, entry_added}
use Rattle.octets.specs.Wrote.{Wrote}
use Rattle.store.specs.Layout.{clock_of, floor_of, layout_rule, table_of}
use Rattle.entries.specs.Entries.{entry_shown, open_size}
use Rattle.loading.specs.declared.Walk.{Walk}
use Rattle.loading.specs.declared.Refusal.{Refusal}
use Rattle.loading.specs.declared.Refusal.TheVariants as refusal

-- ── The walk ────────────────────────────────────────────────────────────────────────────────────────────────────────

-- What a pair that was judged adds to the rows, and to the lines that are dropped; its lines are `lines` from line `first` on.
unfoldable pub keeps_in : List Row → Judged → List Row
keeps_in kept (keeps r) = kept ++ (r ∷ [])
keeps_in kept (drops reason) = kept

unfoldable pub names_in : ℕ → ℕ → Judged → List Dropped
names_in first lines (keeps r) = []
names_in first lines (drops reason) = dropped_from reason first lines

-- Further lines, after `lines` lines from line `first` on that say e.
unfoldable pub walked : ℕ → List Row → ℕ → ℕ → Entry → List (List ℕ) → Kept
walked clock kept first lines e [] = record { rows = keeps_in kept (judged clock kept e); dropped = names_in first lines (judged clock kept e) }
walked clock kept first lines e (l ∷ ls) =
    elim (is_key_line l) [
      | true ↦ walked clock kept first (suc lines) (entry_added e (read_key l)) ls
      | false ↦ dropping (names_in first lines (judged clock kept e)) (walked clock (keeps_in kept (judged clock kept e)) (first + lines) 1 (entry_begun (read_pair l)) ls)
    ]

-- ── What the code keeps ─────────────────────────────────────────────────────────────────────────────────────────────

-- Dropped lines as words: the line, the reason.
unfoldable pub named_words : List Dropped → List ℕ
named_words [] = []
named_words (d ∷ ds) = d.line ∷ d.reason ∷ named_words ds

-- These dropped lines stand in the lent words behind so many others, where there is room for all.
pub record Named (before : ℕ) (ds : List Dropped) (entry exit : List ℕ) : Type 0 where
  pub size : length exit ≡ length entry
  pub wrote : 2 * (before + length ds) ≤ length entry → Wrote (named_words ds) (2 * before) entry exit (2 * (before + length ds))

-- How a pair is judged beside the rows of the lent table, its suffix at the front of these octets.
abbrev pub judged_in : List ℕ → List ℕ → List ℕ → Walk → Judged
judged_in w s suffix x = judged (clock_of w) (table_of w s).rows (entry_shown suffix x.said)

-- The open pair has ended: its row is put in, or its lines are named.
pub record Settled (w s suffix named : List ℕ) (x : Walk) (w' s' named' : List ℕ) (dropped : ℕ) : Type 0 where
  pub layout : layout_rule w' s' ≡ true
  pub clock : clock_of w' ≡ clock_of w
  pub floor : floor_of w' ≡ floor_of w
  pub rows : (table_of w' s').rows ≡ keeps_in (table_of w s).rows (judged_in w s suffix x)
  pub names : Named x.dropped (names_in x.first x.lines (judged_in w s suffix x)) named named'
  pub count : dropped ≡ x.dropped + length (names_in x.first x.lines (judged_in w s suffix x))
  pub few : dropped ≤ x.dropped + x.lines

-- A `key` line of the open pair, and a line that starts a pair: its suffix is at the front of the lent octets.
pub record LineAdded (line : List ℕ) (x y : Walk) : Type 0 where
  pub first : y.first ≡ x.first
  pub lines : y.lines ≡ suc x.lines
  pub dropped : y.dropped ≡ x.dropped
  pub fits : open_size y.said ≤ open_size x.said
  pub adds : (suffix : List ℕ) → entry_shown suffix y.said ≡ entry_added (entry_shown suffix x.said) (read_key line)

pub record PairStarted (line suffix suffix' : List ℕ) (first dropped : ℕ) (y : Walk) : Type 0 where
  pub first_is : y.first ≡ first
  pub lines : y.lines ≡ 1
  pub dropped_is : y.dropped ≡ dropped
  pub size : length suffix' ≡ length suffix
  pub fits : open_size y.said ≤ 128
  pub begins : entry_shown suffix' y.said ≡ entry_begun (read_pair line)

-- What is left to walk after the open pair and these lines.
abbrev pub rest_of : List ℕ → List ℕ → List ℕ → Walk → List (List ℕ) → Kept
rest_of w s suffix x ls = walked (clock_of w) (table_of w s).rows x.first x.lines (entry_shown suffix x.said) ls

-- One line more.
pub record Turned (w s suffix named line : List ℕ) (x : Walk) (w' s' suffix' named' : List ℕ) (y : Walk) : Type 0 where
  pub layout : layout_rule w' s' ≡ true
  pub clock : clock_of w' ≡ clock_of w
  pub floor : floor_of w' ≡ floor_of w
  pub size : length suffix' ≡ length suffix
  pub fits : open_size y.said ≤ 128
  pub passes : y.first + y.lines ≡ suc (x.first + x.lines)
  pub few : x.dropped ≤ x.first → y.dropped ≤ y.first
  pub ds : List Dropped
  pub names : Named x.dropped ds named named'
  pub count : y.dropped ≡ x.dropped + length ds
  pub walks : (ls : List (List ℕ)) → rest_of w s suffix x (line ∷ ls) ≡ dropping ds (rest_of w' s' suffix' y ls)

-- All lines from the place `at` on, with no pair open.
pub record Walks (text : List ℕ) (at : ℕ) (w s named w' s' named' : List ℕ) (dropped : ℕ) : Type 0 where
  pub layout : layout_rule w' s' ≡ true
  pub clock : clock_of w' ≡ clock_of w
  pub floor : floor_of w' ≡ floor_of w
  pub ds : List Dropped
  pub names : Named 0 ds named named'
  pub count : dropped ≡ length ds
  pub walks : walked (clock_of w) (table_of w s).rows 2 0 unread (lines_of (drop at text)) ≡ record { rows = (table_of w' s').rows; dropped = ds }

-- ── The whole text ──────────────────────────────────────────────────────────────────────────────────────────────────

-- What mending is, as the code ends: the table that the words and octets show, and the lines that are named. (ROOM is tested by the caller.)
abbrev pub Reads : Mended → List ℕ → List ℕ → List ℕ → List ℕ → Result ℕ Refusal → Type 0
Reads no_clock w s named named' r = r ≡ Err refusal.Line
Reads no_rule w s named named' r = r ≡ Err refusal.Table
Reads no_room w s named named' r = ⊥
Reads (mended t ds) w s named named' r = (table_of w s ≡ t) × (r ≡ Ok (length ds)) × Named 0 ds named named'

-- The same of the lines below line 1, which said the clock and the floor c.
abbrev pub ReadsBelow : List ℕ → ℕ → Clocked → List ℕ → List ℕ → List ℕ → List ℕ → Result ℕ Refusal → Type 0
ReadsBelow text at c w s named named' r = Reads (mended_by (Some c) (blocks_of (lines_of (drop at text)))) w s named named' r
