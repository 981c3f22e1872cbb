-- The layout before 02, CR 11: rows in order of enrolment, their suffixes, lengths and pairs in three arrays, and found by comparing one row after another. It
-- is here for the claim alone: no code has it any more. Its TABLE is the test of the table that it shows. Closing (02, CR 9), which came after it, is what that
-- layout would do: later rows move down in each array; and so are loading and mending (02, CR 7): rows put in one after another. Assumes nothing.
use Rattle.std.specs.Prelude.{ℕ, zero, suc, ◌+◌, ◌-◌, ◌*◌, max, ◌≡◌, true, false, cond, ◌&&◌, List, [], ◌∷◌, ◌++◌, length, get_or, set, take, drop, leb, ltb, Option, None, Some}
use Rattle.model.specs.declared.BatchItem.{BatchItem}
use Rattle.model.specs.declared.Pair.{Pair}
use Rattle.model.specs.Octets.{part, overlay, Reading, stops, reads}
use Rattle.model.specs.Names.{same_name, after_label, algorithm_numbered}
use Rattle.model.specs.Messages.{Message, read_message}
use Rattle.model.specs.Tsig.{Signature, unsigned, misplaced, well_placed, signature}
use Rattle.model.specs.Pairs.{issued}
use Rattle.model.specs.Tables.{Row, Table, no_pair, is_none, suffix_ok, term_ok, table_rules}
use Rattle.model.specs.Checks.{check, check_some, check_known}
use Rattle.model.specs.Judging.{Holder, nobody, holder}
use Rattle.model.specs.Calls.{DONE, TABLE, TIME, NOPAIR, SPENT, NAME, TERM, TWIN, FULL, Outcome, refusal, done, time_fits, gate, fresh_pair, size_ok, Call, issue, revoke, look, message, time_of, step_of}
use Rattle.model.specs.Runs.{Operation, enrol, close, call}
use Rattle.model.specs.Batches.{BATCH, batch_ok, item_call}
use Rattle.model.specs.Loading as model
use Rattle.model.specs.Loading.{Loaded, no_line, no_table, loaded, Mended, no_clock, no_rule, no_room, mended, mend_in}
use Rattle.layouts.specs.Runs.{Act, new, load, mend, on, batch, Ended, alone, load_outcome, mend_outcome}

pub record Array : Type 0 where
  pub clock : ℕ
  pub floor : ℕ
  pub count : ℕ
  pub suffixes : List ℕ
  pub lengths : List ℕ
  pub pairs : List Pair

-- Its arrays have 128 octets, a length and a pair for each of 64 rows.
pub record Sized (a : Array) : Type 0 where
  pub octets : length a.suffixes ≡ 8192
  pub sizes : length a.lengths ≡ 64
  pub slots : length a.pairs ≡ 64

-- ── The view ────────────────────────────────────────────────────────────────────────────────────────────────────────

-- The suffix of row i. A length over 128 was refused with TABLE, whatever stood there: so that what is shown breaks a rule too, it shows an empty suffix.
unfoldable pub suffix_in : Array → ℕ → List ℕ
suffix_in a i = cond (leb (get_or a.lengths i 0) 128) (part a.suffixes (i * 128) (get_or a.lengths i 0)) []

unfoldable pub row_in : Array → ℕ → Row
row_in a i = record { suffix = suffix_in a i; pair = get_or a.pairs i no_pair }

-- n rows from row i on.
unfoldable pub rows_in : Array → ℕ → ℕ → List Row
rows_in a zero i = []
rows_in a (suc n) i = row_in a i ∷ rows_in a n (suc i)

unfoldable pub view_of : Array → Table
view_of a = record { clock = a.clock; floor = a.floor; rows = rows_in a a.count 0 }

-- ── Its calls ───────────────────────────────────────────────────────────────────────────────────────────────────────

-- The first of n rows from row i on whose suffix is this name.
unfoldable pub searched : Array → List ℕ → ℕ → ℕ → Option ℕ
searched a name zero i = None
searched a name (suc n) i = elim (same_name (suffix_in a i) name) [ true ↦ Some i | false ↦ searched a name n (suc i) ]

unfoldable pub row_of : Array → List ℕ → Option ℕ
row_of a name = searched a name a.count 0

-- Another clock; another pair in row i; one row more; one row less.
unfoldable pub put_clock : Array → Option ℕ → Array
put_clock a None = a
put_clock a (Some time) = record { clock = time; floor = a.floor; count = a.count; suffixes = a.suffixes; lengths = a.lengths; pairs = a.pairs }

unfoldable pub put_pair : Array → ℕ → Pair → Array
put_pair a i p = record { clock = a.clock; floor = a.floor; count = a.count; suffixes = a.suffixes; lengths = a.lengths; pairs = set a.pairs i p }

unfoldable pub put_row : Array → List ℕ → Pair → Array
put_row a suffix p =
    record {
      clock = a.clock;
      floor = a.floor;
      count = a.count + 1;
      suffixes = overlay suffix (a.count * 128) a.suffixes;
      lengths = set a.lengths a.count (length suffix);
      pairs = set a.pairs a.count p;
    }

-- What lies n further on moves down to the place i, with all behind it; the last n stay too.
unfoldable pub close_up : {A : Type 0} → ℕ → ℕ → List A → List A
close_up i n xs = take i xs ++ (drop (i + n) xs ++ drop (length xs - n) xs)

unfoldable pub put_out : Array → ℕ → Array
put_out a i =
    record {
      clock = a.clock;
      floor = max a.floor (get_or a.pairs i no_pair).next_serial;
      count = a.count - 1;
      suffixes = close_up (i * 128) 128 a.suffixes;
      lengths = close_up i 1 a.lengths;
      pairs = close_up i 1 a.pairs;
    }

-- The row that a call belongs to.
abbrev pub signed_in : Array → Signature → Option ℕ
signed_in a unsigned = None
signed_in a misplaced = None
signed_in a (well_placed s) = row_of a (after_label s.name)

abbrev pub read_in : Array → Reading Message → Option ℕ
read_in a (stops place) = None
read_in a (reads m next) = signed_in a (signature m.records)

unfoldable pub octets_in : Array → List ℕ → Option ℕ
octets_in a octets = cond (size_ok octets) (read_in a (read_message octets)) None

unfoldable pub number_in : Array → ℕ → Option ℕ
number_in a number = cond (leb 1 number && leb number a.count) (Some (number - 1)) None

unfoldable pub owner_in : Array → Call → Option ℕ
owner_in a (issue time number algorithm) = number_in a number
owner_in a (revoke time number) = number_in a number
owner_in a (look octets) = octets_in a octets
owner_in a (message g room octets) = octets_in a octets

unfoldable pub holder_in : Array → ℕ → Holder
holder_in a i = holder (i + 1) (suffix_in a i) (get_or a.pairs i no_pair)

-- What an operation leaves and ends with.
abbrev pub refused_in : Array → ℕ → Array × Outcome
refused_in a n = (a, refusal n)

abbrev pub served_in : Array → Call → Option ℕ → Array × Outcome
served_in a c None = (a, (step_of nobody c).outcome)
served_in a c (Some i) = (put_pair a i (step_of (holder_in a i) c).pair, (step_of (holder_in a i) c).outcome)

abbrev pub called_in : Array → Call → Option ℕ → Array × Outcome
called_in a c (Some n) = refused_in a n
called_in a c None = served_in (put_clock a (time_of c)) c (owner_in (put_clock a (time_of c)) c)

unfoldable pub enrolled_in : Array → List ℕ → ℕ → ℕ → ℕ → Array × Outcome
enrolled_in a suffix lifetime fresh algorithm =
    check (refused_in a) NAME (suffix_ok suffix)
    (check (refused_in a) TERM (term_ok lifetime fresh)
    (check_known (refused_in a) TERM (algorithm_numbered algorithm) λ g.
    check (refused_in a) TWIN (is_none (row_of a suffix))
    (check (refused_in a) FULL (ltb a.count 64)
    (check (refused_in a) SPENT (ltb a.floor 0x1_0000_0000)
    (put_row a suffix (issued (fresh_pair a.floor lifetime fresh) a.clock g), done (a.count + 1) a.floor)))))

abbrev pub enrol_in : Array → ℕ → List ℕ → ℕ → ℕ → ℕ → Option ℕ → Array × Outcome
enrol_in a time suffix lifetime fresh algorithm (Some n) = refused_in a n
enrol_in a time suffix lifetime fresh algorithm None = enrolled_in (put_clock a (Some time)) suffix lifetime fresh algorithm

unfoldable pub closed_in : Array → ℕ → Array × Outcome
closed_in a number = check_some (refused_in a) NOPAIR (number_in a number) λ i. (put_out a i, done 0 0)

abbrev pub close_in : Array → ℕ → ℕ → Option ℕ → Array × Outcome
close_in a time number (Some n) = refused_in a n
close_in a time number None = closed_in (put_clock a (Some time)) number

unfoldable pub new_in : Array → ℕ → Array × Outcome
new_in a time =
    check (refused_in a) TIME (time_fits time)
    (record { clock = time; floor = 1; count = 0; suffixes = a.suffixes; lengths = a.lengths; pairs = a.pairs }, done 0 0)

unfoldable pub operated_in : Array → Operation → Array × Outcome
operated_in a (enrol time suffix lifetime fresh algorithm) = enrol_in a time suffix lifetime fresh algorithm (gate (view_of a) (Some time))
operated_in a (close time number) = close_in a time number (gate (view_of a) (Some time))
operated_in a (call c) = called_in a c (gate (view_of a) (time_of c))

-- A batch: TABLE, BATCH, and its items in turn, each lent the room that is left.
abbrev pub refused_all : Array → ℕ → Array × Ended
refused_all a n = (a, (n, []))

abbrev pub and_then : Array × Outcome → Array × Ended → Array × Ended
and_then r rest = (rest.0, (rest.1.0, r.1 ∷ rest.1.1))

unfoldable pub turn_in : List ℕ → Array → ℕ → List BatchItem → Array × Ended
turn_in octets a room [] = (a, (DONE, []))
turn_in octets a room (x ∷ xs) =
    let r = operated_in a (call (item_call octets room x)) in
    and_then r (turn_in octets r.0 (room - length r.1.reply) xs)

abbrev pub only : Array × Outcome → Array × Ended
only r = (r.0, alone r.1)

-- A table in the place of the one that is there.
unfoldable pub put_rows : Array → List Row → Array
put_rows a [] = a
put_rows a (r ∷ rs) = put_rows (put_row a r.suffix r.pair) rs

unfoldable pub put_table : Array → Table → Array
put_table a t = put_rows (record { clock = t.clock; floor = t.floor; count = 0; suffixes = a.suffixes; lengths = a.lengths; pairs = a.pairs }) t.rows

abbrev pub loaded_in : Array → Loaded → Array
loaded_in a (no_line n) = a
loaded_in a no_table = a
loaded_in a (loaded t) = put_table a t

abbrev pub mended_in : Array → Mended → Array
mended_in a no_clock = a
mended_in a no_rule = a
mended_in a no_room = a
mended_in a (mended t ds) = put_table a t

unfoldable pub acted_in : Array → Act → Array × Ended
acted_in a (new time) = only (new_in a time)
acted_in a (load text) = only (loaded_in a (model.load text), load_outcome (model.load text))
acted_in a (mend room text) = only (mended_in a (mend_in room text), mend_outcome (mend_in room text))
acted_in a (on o) = only (operated_in a o)
acted_in a (batch octets xs room) =
    check (refused_all a) TABLE (table_rules (view_of a)) (check (refused_all a) BATCH (batch_ok octets xs) (turn_in octets a room xs))

-- A run.
abbrev pub run_in : Array → List Act → List (Array × Ended)
run_in a [] = []
run_in a (o ∷ os) = acted_in a o ∷ run_in (acted_in a o).0 os
