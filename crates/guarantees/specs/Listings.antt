-- What is promised of listing, loading and mending: 02, CR 7. Assumes nothing.
use Rattle.std.specs.Prelude.{◌≡◌, Bool, true, not, List, [], ◌∷◌, ◌++◌, ℕ, suc, ◌≤◌, ◌<◌, eqb, length, None, Some}
use Rattle.model.specs.Tables.{Row, Table, every, names_of, table_rules}
use Rattle.model.specs.Calls.{LINE}
use Rattle.model.specs.Listing.{listing}
use Rattle.model.specs.declared.Clocked.{Clocked}
use Rattle.model.specs.Lines.{lines_of, are_octets, read_clock}
use Rattle.model.specs.Loading.{first_unread, Entry, says, loaded, load, keeps, judged, is_reason, Dropped, clocked_rule, no_room, mended, mend, mend_in, lines_left}

-- The table keeps the rules, and its suffixes are octets (the rules do not bound what stands inside a label; code cannot hold anything else).
pub record Sound (t : Table) : Type 0 where
  pub rules : table_rules t ≡ true
  pub octets : every are_octets (names_of t) ≡ true

abbrev pub table_with : Clocked → List Row → Table
table_with c rs = record { clock = c.clock; floor = c.floor; rows = rs }

-- A line that is dropped for another reason than 18.
abbrev pub other_reason : Dropped → Bool
other_reason d = not (eqb d.reason LINE)

-- Lines from line n on, each below the next.
abbrev pub Rising : ℕ → List Dropped → Type 0
Rising n [] = Unit {0}
Rising n (d ∷ ds) = (n ≤ d.line) × Rising (suc d.line) ds

pub record Demand7 : Type 0 where
  -- "Loading and listing undo each other": what loads is sound and lists as the same text, and every sound table's listing loads as the same table
  pub load_sound : (s : List ℕ) (t : Table) → load s ≡ loaded t → Sound t
  pub load_lists : (s : List ℕ) (t : Table) → load s ≡ loaded t → listing t ≡ s
  pub list_loads : (t : Table) → Sound t → load (listing t) ≡ loaded t
  -- what mending keeps is sound
  pub mend_sound : (s : List ℕ) (t : Table) (ds : List Dropped) → mend s ≡ mended t ds → Sound t
  -- "Mending keeps exactly the pairs whose lines all read and break no table rule with those kept before": beside rows that keep the rules, a pair is kept
  -- only where its lines say a row that keeps them too, and always there
  pub keeps_only :
      (c : Clocked) (kept : List Row) (e : Entry) (r : Row)
      → table_rules (table_with c kept) ≡ true
      → judged c.clock kept e ≡ keeps r
      → (e ≡ says r.suffix (Some r.pair)) × (table_rules (table_with c (kept ++ (r ∷ []))) ≡ true)
  pub keeps_all : (c : Clocked) (kept : List Row) (r : Row) → table_rules (table_with c (kept ++ (r ∷ []))) ≡ true → judged c.clock kept (says r.suffix (Some r.pair)) ≡ keeps r
  -- "And names each dropped line": where these are struck out, the lines of the table's listing are left
  pub names_dropped : (s : List ℕ) (t : Table) (ds : List Dropped) → mend s ≡ mended t ds → lines_left ds 1 (lines_of s) ≡ lines_of (listing t)
  -- each with one of the four reasons
  pub four_reasons : (s : List ℕ) (t : Table) (ds : List Dropped) → mend s ≡ mended t ds → every (λ d. is_reason d.reason) ds ≡ true
  -- 18 is one reason in both: every line of the text reads exactly where mending drops none with 18
  pub reads_other : (s : List ℕ) (t : Table) (ds : List Dropped) → mend s ≡ mended t ds → first_unread (lines_of s) ≡ None → every other_reason ds ≡ true
  pub other_reads : (s : List ℕ) (t : Table) (ds : List Dropped) → mend s ≡ mended t ds → every other_reason ds ≡ true → first_unread (lines_of s) ≡ None
  -- a listing that loads is one of which mending drops nothing
  pub mend_whole : (s : List ℕ) (t : Table) → load s ≡ loaded t → mend s ≡ mended t []
  pub whole_loads : (s : List ℕ) (t : Table) → mend s ≡ mended t [] → load s ≡ loaded t
  -- mending is done where line 1 reads and keeps its rules, with its clock and floor, whatever stands below
  pub mend_read :
      (s l : List ℕ) (ls : List (List ℕ)) (c : Clocked) → lines_of s ≡ l ∷ ls → read_clock l ≡ Some c → clocked_rule c ≡ true
      → (t : Table) × (ds : List Dropped) × (mend s ≡ mended t ds) × (t.clock ≡ c.clock) × (t.floor ≡ c.floor)
  -- dropped lines are named in order, none twice
  pub in_order : (s : List ℕ) (t : Table) (ds : List Dropped) → mend s ≡ mended t ds → Rising 2 ds
  -- and room to name fewer lines refuses with ROOM, and room for all changes nothing
  pub with_room : (room : ℕ) (s : List ℕ) (t : Table) (ds : List Dropped) → mend s ≡ mended t ds → length ds ≤ room → mend_in room s ≡ mended t ds
  pub without_room : (room : ℕ) (s : List ℕ) (t : Table) (ds : List Dropped) → mend s ≡ mended t ds → room < length ds → mend_in room s ≡ no_room
