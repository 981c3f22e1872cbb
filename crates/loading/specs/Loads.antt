-- What loading and mending leave of what is lent. Assumes nothing.
use Rattle.std.specs.Prelude.{ℕ, ◌/◌, Bool, true, false, cond, ◌&&◌, ◌≡◌, List, [], eqb, length, Result, Ok, Err}
use Rattle.model.specs.Octets.{put}
use Rattle.model.specs.Tables.{Table}
use Rattle.model.specs.Calls.{DONE, TABLE, LINE}
use Rattle.model.specs.Loading.{Loaded, no_line, no_table, loaded, load, load_number, load_line, Dropped, Mended, no_clock, no_rule, no_room, mended, mend, mended_in, mend_number, mend_line}
use Rattle.store.specs.Layout.{table_of}
use Rattle.loading.specs.declared.Ended.{Ended}
use Rattle.loading.specs.declared.Mending.{Mending}
use Rattle.loading.specs.declared.Refusal.{Refusal}
use Rattle.loading.specs.declared.Refusal.TheVariants as refusal
use Rattle.loading.specs.Walk.{named_words}

-- ── Loading ─────────────────────────────────────────────────────────────────────────────────────────────────────────

-- The lent words and octets have a table's lengths.
abbrev pub lends : List ℕ → List ℕ → Bool
lends w s = eqb (length w) 1091 && eqb (length s) 8192

-- Into words and octets of other lengths no table goes: TABLE, behind LINE (decisions 2 and 49).
abbrev pub load_into : Bool → Loaded → Loaded
load_into true l = l
load_into false (no_line n) = no_line n
load_into false no_table = no_table
load_into false (loaded t) = no_table

abbrev pub end_of : Loaded → Ended
end_of l = record { number = load_number l; line = load_line l }

-- The table afterwards: a refusal leaves the one that was lent.
abbrev pub table_after : Table → Loaded → Table
table_after t (no_line n) = t
table_after t no_table = t
table_after t (loaded u) = u

-- What the words and octets without meaning hold (decision 11) is not said.
pub record Loads (text w s w' s' : List ℕ) (r : Ended) : Type 0 where
  pub says : r ≡ end_of (load_into (lends w s) (load text))
  pub table : table_of w' s' ≡ table_after (table_of w s) (load_into (lends w s) (load text))
  pub refused : ¬ (r.number ≡ DONE) → (w' ≡ w) × (s' ≡ s)

-- A table is put into the lent words and octets; or they stay, having other lengths.
pub record Kept (w s words suffixes words' suffixes' : List ℕ) (r : ℕ) : Type 0 where
  pub fits : lends words suffixes ≡ true → (r ≡ DONE) × (words' ≡ w) × (suffixes' ≡ s)
  pub misfits : lends words suffixes ≡ false → (r ≡ TABLE) × (words' ≡ words) × (suffixes' ≡ suffixes)

-- ── Mending ─────────────────────────────────────────────────────────────────────────────────────────────────────────

-- How a mending ends whose table is not kept.
abbrev pub Counted : Mended → Result ℕ Refusal → Type 0
Counted no_clock r = r ≡ Err refusal.Line
Counted no_rule r = r ≡ Err refusal.Table
Counted no_room r = ⊥
Counted (mended t ds) r = r ≡ Ok (length ds)

abbrev pub refused_with : ℕ → Mending
refused_with n = record { number = n; line = cond (eqb n LINE) 1 0; dropped = 0 }

abbrev pub mend_into : Bool → Mended → Mended
mend_into true m = m
mend_into false no_clock = no_clock
mend_into false no_rule = no_rule
mend_into false no_room = no_room
mend_into false (mended t ds) = no_rule

abbrev pub dropped_by : Mended → List Dropped
dropped_by no_clock = []
dropped_by no_rule = []
dropped_by no_room = []
dropped_by (mended t ds) = ds

abbrev pub table_mended : Table → Mended → Table
table_mended t no_clock = t
table_mended t no_rule = t
table_mended t no_room = t
table_mended t (mended u ds) = u

-- How mending ends in lent words and octets, with room to name so many lines.
abbrev pub mends_as : List ℕ → List ℕ → List ℕ → List ℕ → Mended
mends_as text w s named = mended_in (length named / 2) (mend_into (lends w s) (mend text))

abbrev pub mend_end : Mended → Mending
mend_end m = record { number = mend_number m; line = mend_line m; dropped = length (dropped_by m) }

pub record Mends (text w s named w' s' named' : List ℕ) (r : Mending) : Type 0 where
  pub says : r ≡ mend_end (mends_as text w s named)
  pub table : table_of w' s' ≡ table_mended (table_of w s) (mends_as text w s named)
  pub names : named' ≡ put (named_words (dropped_by (mends_as text w s named))) named
  pub refused : ¬ (r.number ≡ DONE) → (w' ≡ w) × (s' ≡ s)
