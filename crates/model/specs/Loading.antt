-- Listing, loading and mending: 02, CR 7. Assumes nothing.
use Rattle.std.specs.Prelude.{ℕ, zero, suc, ◌+◌, Bool, true, false, cond, not, ◌&&◌, ◌||◌, List, [], ◌∷◌, ◌++◌, map, length, leb, ltb, eqb, Option, None, Some}
use Rattle.model.specs.declared.Keys.{Keys}
use Rattle.model.specs.declared.Keys.TheVariants.{Empty, Adopted, Renewing}
use Rattle.model.specs.declared.Pair.{Pair}
use Rattle.model.specs.Pairs.{with_keys}
use Rattle.model.specs.Tables.{Row, Table, is_none, row_named, suffix_ok, serial_rule, clock_rule, pair_rule, table_rules}
use Rattle.model.specs.Checks.{check}
use Rattle.model.specs.Calls.{DONE, TABLE, ROOM, TWIN, FULL, LINE}
use Rattle.model.specs.Text.{only_if}
use Rattle.model.specs.Listing.{listing}
use Rattle.model.specs.declared.Clocked.{Clocked}
use Rattle.model.specs.declared.Stated.{Stated}
use Rattle.model.specs.Lines.{lines_of, is_key_line, given, read_clock, read_pair, read_key}

-- ── Which pair a line belongs to ────────────────────────────────────────────────────────────────────────────────────

-- "After line 1, a line whose first field is `key` belongs to the nearest other line above ..; any other line starts a pair." The lines of a pair: the one that
-- starts it, and the `key` lines right below.
pub record Block : Type 0 where
  pub starts : List ℕ
  pub below : List (List ℕ)

-- The lines after line 1: `key` lines that belong to line 1, then blocks.
pub record Blocks : Type 0 where
  pub loose : List (List ℕ)
  pub blocks : List Block

abbrev pub blocks_from : Bool → List ℕ → Blocks → Blocks
blocks_from true l b = record { loose = l ∷ b.loose; blocks = b.blocks }
blocks_from false l b = record { loose = []; blocks = record { starts = l; below = b.loose } ∷ b.blocks }

unfoldable pub blocks_of : List (List ℕ) → Blocks
blocks_of [] = record { loose = []; blocks = [] }
blocks_of (l ∷ ls) = blocks_from (is_key_line l) l (blocks_of ls)

-- How many lines a block has.
unfoldable pub size_of : Block → ℕ
size_of b = suc (length b.below)

-- ── The first line that does not read ───────────────────────────────────────────────────────────────────────────────

abbrev pub is_some : {A : Type 0} → Option A → Bool
is_some a = not (is_none a)

-- A `key` line "does not read when that is line 1": `top` says that the nearest line above that is no `key` line is line 1.
abbrev pub reads_as : Bool → Bool → List ℕ → Bool
reads_as true top l = not top && is_some (read_key l)
reads_as false top l = is_some (read_pair l)

-- The first that does not read of these lines, the first of them line n.
abbrev pub unread_or : Bool → ℕ → Option ℕ → Option ℕ
unread_or true n rest = rest
unread_or false n rest = Some n

unfoldable pub unread_from : Bool → ℕ → List (List ℕ) → Option ℕ
unread_from top n [] = None
unread_from top n (l ∷ ls) = unread_or (reads_as (is_key_line l) top l) n (unread_from (top && is_key_line l) (suc n) ls)

-- "The first line that does not read (line 1 if empty)."
unfoldable pub first_unread : List (List ℕ) → Option ℕ
first_unread [] = Some 1
first_unread (l ∷ ls) = unread_or (is_some (read_clock l)) 1 (unread_from true 2 ls)

-- ── What the lines of a pair say ────────────────────────────────────────────────────────────────────────────────────

-- "Then its keys, adopted first": no key, one adopted key, or one adopted key and one waiting. "Keys in the wrong number or order .. break a table rule."
unfoldable pub keys_of : List Stated → Option Keys
keys_of [] = Some Empty
keys_of (a ∷ []) = only_if a.adopted (Some (Adopted a.key))
keys_of (a ∷ w ∷ []) = only_if (a.adopted && not w.adopted) (Some (Renewing a.key w.key))
keys_of (a ∷ w ∷ k ∷ ks) = None

unfoldable pub read_keys : List (List ℕ) → Option (List Stated)
read_keys [] = Some []
read_keys (l ∷ ls) = given (read_key l) λ k. given (read_keys ls) λ ks. Some (k ∷ ks)

-- What a block says: a line of it does not read; or the pair's suffix, and the pair, where its keys are in the right number and order.
pub data Entry : Type 0 where
  unread : Entry
  says : List ℕ → Option Pair → Entry

abbrev pub entry_from : Option Row → Option (List Stated) → Entry
entry_from None ks = unread
entry_from (Some r) None = unread
entry_from (Some r) (Some ks) = says r.suffix (given (keys_of ks) λ keys. Some (with_keys r.pair r.pair.next_serial keys))

unfoldable pub entry_of : Block → Entry
entry_of b = entry_from (read_pair b.starts) (read_keys b.below)

-- ── Loading ─────────────────────────────────────────────────────────────────────────────────────────────────────────

-- The rows that blocks say, and the table that lines say: none where a line does not read, or keys are in the wrong number or order.
abbrev pub row_from : Entry → Option Row
row_from unread = None
row_from (says suffix None) = None
row_from (says suffix (Some p)) = Some (record { suffix = suffix; pair = p })

unfoldable pub rows_of : List Block → Option (List Row)
rows_of [] = Some []
rows_of (b ∷ bs) = given (row_from (entry_of b)) λ r. given (rows_of bs) λ rs. Some (r ∷ rs)

abbrev pub rows_below : List (List ℕ) → List Block → Option (List Row)
rows_below [] bs = rows_of bs
rows_below (l ∷ ls) bs = None

unfoldable pub table_said : List (List ℕ) → Option Table
table_said [] = None
table_said (l ∷ ls) =
    given (read_clock l) λ c.
    given (rows_below (blocks_of ls).loose (blocks_of ls).blocks) λ rs.
    Some (record { clock = c.clock; floor = c.floor; rows = rs })

-- "Refusals, in order: 18 LINE with the first line that does not read .., 1 TABLE for a broken rule." (Loading is never refused with ROOM.)
pub data Loaded : Type 0 where
  no_line : ℕ → Loaded
  no_table : Loaded
  loaded : Table → Loaded

abbrev pub loaded_by : Option ℕ → Option Table → Loaded
loaded_by (Some n) t = no_line n
loaded_by None None = no_table
loaded_by None (Some t) = cond (table_rules t) (loaded t) no_table

unfoldable pub load : List ℕ → Loaded
load s = loaded_by (first_unread (lines_of s)) (table_said (lines_of s))

-- The number of each ending, and the line beside it.
unfoldable pub load_number : Loaded → ℕ
load_number (no_line n) = LINE
load_number no_table = TABLE
load_number (loaded t) = DONE

unfoldable pub load_line : Loaded → ℕ
load_line (no_line n) = n
load_line no_table = 0
load_line (loaded t) = 0

-- ── Listing ─────────────────────────────────────────────────────────────────────────────────────────────────────────

-- The listing of a lent table, into room for so many octets: "1 TABLE for a broken rule .., 8 ROOM".
pub data Listed : Type 0 where
  bad_table : Listed
  too_long : Listed
  lists : List ℕ → Listed

unfoldable pub list_in : ℕ → Table → Listed
list_in room t = cond (table_rules t) (cond (leb (length (listing t)) room) (lists (listing t)) too_long) bad_table

unfoldable pub list_number : Listed → ℕ
list_number bad_table = TABLE
list_number too_long = ROOM
list_number (lists octets) = DONE

-- ── Mending ─────────────────────────────────────────────────────────────────────────────────────────────────────────

-- "Mending keeps exactly the pairs whose lines all read and break no table rule with those kept before", and else there is "the first reason that applies to its
-- pair: 18 a line does not read, 14 suffix already kept, 15 when 64 are kept, 1 another rule broken".
pub data Judged : Type 0 where
  keeps : Row → Judged
  drops : ℕ → Judged

abbrev pub sound_row : ℕ → List ℕ → Option Pair → Judged
sound_row clock suffix None = drops TABLE
sound_row clock suffix (Some p) = cond (suffix_ok suffix && pair_rule clock p) (keeps (record { suffix = suffix; pair = p })) (drops TABLE)

unfoldable pub judged : ℕ → List Row → Entry → Judged
judged clock kept unread = drops LINE
judged clock kept (says suffix p) =
    check drops TWIN (is_none (row_named (map (λ r. r.suffix) kept) suffix))
    (check drops FULL (ltb (length kept) 64)
    (sound_row clock suffix p))

-- The four reasons.
unfoldable pub is_reason : ℕ → Bool
is_reason n = eqb n LINE || (eqb n TWIN || (eqb n FULL || eqb n TABLE))

-- "Names each dropped line with the .. reason": so many lines from line n on.
pub record Dropped : Type 0 where
  pub line : ℕ
  pub reason : ℕ

unfoldable pub dropped_from : ℕ → ℕ → ℕ → List Dropped
dropped_from reason n zero = []
dropped_from reason n (suc k) = record { line = n; reason = reason } ∷ dropped_from reason (suc n) k

-- What is kept of blocks, after the rows kept before, and the lines that are dropped; the first line of the blocks is line n.
pub record Kept : Type 0 where
  pub rows : List Row
  pub dropped : List Dropped

abbrev pub dropping : List Dropped → Kept → Kept
dropping ds k = record { rows = k.rows; dropped = ds ++ k.dropped }

unfoldable pub kept_from : ℕ → List Row → ℕ → List Block → Kept
kept_from clock kept n [] = record { rows = kept; dropped = [] }
kept_from clock kept n (b ∷ bs) =
    elim (judged clock kept (entry_of b)) [
      | keeps r ↦ kept_from clock (kept ++ (r ∷ [])) (n + size_of b) bs
      | drops reason ↦ dropping (dropped_from reason n (size_of b)) (kept_from clock kept (n + size_of b) bs)
    ]

-- "When mending, line 1 only", and "the clock line's only": its rules are "clock below 2^48" and (CR 9) "the floor is 1 to 2^32".
unfoldable pub clocked_rule : Clocked → Bool
clocked_rule c = clock_rule c.clock && serial_rule c.floor

pub data Mended : Type 0 where
  no_clock : Mended
  no_rule : Mended
  no_room : Mended
  mended : Table → List Dropped → Mended

-- A `key` line that belongs to line 1 does not read: it is dropped with 18, by itself. (The floor is the listing's: mending does not raise it.)
abbrev pub mended_with : Clocked → Kept → Mended
mended_with c k = mended (record { clock = c.clock; floor = c.floor; rows = k.rows }) k.dropped

abbrev pub mended_by : Option Clocked → Blocks → Mended
mended_by None b = no_clock
mended_by (Some c) b =
    cond (clocked_rule c)
    (mended_with c (dropping (dropped_from LINE 2 (length b.loose)) (kept_from c.clock [] (2 + length b.loose) b.blocks)))
    no_rule

unfoldable pub mend_lines : List (List ℕ) → Mended
mend_lines [] = no_clock
mend_lines (l ∷ ls) = mended_by (read_clock l) (blocks_of ls)

unfoldable pub mend : List ℕ → Mended
mend s = mend_lines (lines_of s)

-- "8 ROOM", last: the room counts dropped lines that can be named.
abbrev pub mended_in : ℕ → Mended → Mended
mended_in room no_clock = no_clock
mended_in room no_rule = no_rule
mended_in room no_room = no_room
mended_in room (mended t ds) = cond (leb (length ds) room) (mended t ds) no_room

unfoldable pub mend_in : ℕ → List ℕ → Mended
mend_in room s = mended_in room (mend s)

-- The number of each ending, and the line beside it.
unfoldable pub mend_number : Mended → ℕ
mend_number no_clock = LINE
mend_number no_rule = TABLE
mend_number no_room = ROOM
mend_number (mended t ds) = DONE

unfoldable pub mend_line : Mended → ℕ
mend_line no_clock = 1
mend_line no_rule = 0
mend_line no_room = 0
mend_line (mended t ds) = 0

-- The lines that are left where the named ones are struck out; the first of these lines is line n.
unfoldable pub names_line : List Dropped → ℕ → Bool
names_line [] n = false
names_line (d ∷ ds) n = eqb d.line n || names_line ds n

abbrev pub left_from : Bool → List ℕ → List (List ℕ) → List (List ℕ)
left_from true l ls = ls
left_from false l ls = l ∷ ls

unfoldable pub lines_left : List Dropped → ℕ → List (List ℕ) → List (List ℕ)
lines_left ds n [] = []
lines_left ds n (l ∷ ls) = left_from (names_line ds n) l (lines_left ds (suc n) ls)
