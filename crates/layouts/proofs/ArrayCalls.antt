-- The calls of the layout before are the definition's on the table that it shows. Assumes nothing.
use mathlib.Core.Path.{◌≡◌, refl, sym, ap, ap₂, ◌∙◌}
use mathlib.Core.Bool.{Bool, true, false, cond, ◌&&◌}
use Rattle.std.specs.Prelude.{Option, None, Some}
use mathlib.Core.List.{List, [], ◌∷◌, ◌++◌, append-nil, append_assoc, map}
use Prim.Native.Nat.{ℕ, ◌+◌, ◌-◌, ◌*◌, ◌≤◌, ◌<◌}
use native.Mathlib.Omega.{arith}
use lib.Dec.{leb, ltb}
use lib.ListN.{length, length-set}
use borrow.Author.Tests.{ltb-true, leb-true}
use Rattle.model.specs.declared.Algorithm.{Algorithm}
use Rattle.model.specs.declared.Pair.{Pair}
use Rattle.model.specs.Octets.{Reading, stops, reads}
use Rattle.model.specs.Names.{algorithm_numbered}
use Rattle.model.specs.Messages.{Message, read_message}
use Rattle.model.specs.Tsig.{Signature, unsigned, misplaced, well_placed, signature}
use Rattle.model.specs.Pairs.{issued}
use Rattle.model.specs.Tables.{Row, Table, every, suffix_at, pair_at, with_pair, names_of, row_named, is_none, suffix_ok, term_ok, table_rules}
use Rattle.model.specs.Checks.{check, check_some, check_known}
use Rattle.model.specs.Judging.{Holder, holder}
use Rattle.model.specs.Calls.{TABLE, TIME, time_fits, empty_table, new_table, NOPAIR, SPENT, NAME, TERM, TWIN, FULL, Outcome, Result, done, unchanged, gate, with_row, first_serial, fresh_pair, enrolled, enrol_passed, enrol_on, without_row, closed, close_passed, close_on, size_ok, Call, issue, revoke, look, message, time_of, signed_by, read_by, octets_owner, number_owner, owner_of, step_of, holder_at, served_by, served, passed, called}
use Rattle.model.specs.declared.BatchItem.{BatchItem}
use Rattle.model.specs.Runs.{Operation, enrol, close, call, operated}
use Rattle.model.specs.Batches.{BATCH, batch_ok, item_call, Batched, refused_whole, behind, in_turn, batch_on}
use Rattle.model.proofs.Buffers.{overlay_length}
use Rattle.model.specs.Loading as model
use Rattle.model.specs.Loading.{Loaded, no_line, no_table, loaded, Dropped, Mended, no_clock, no_rule, no_room, mended, mend_in}
use Rattle.model.proofs.Rows.{few, tests}
use Rattle.model.proofs.Loads.{load_is}
use Rattle.model.proofs.Mends.{mend_sound, mend_in_lem}
use Rattle.rules.proofs.Laws.{suffix_short}
use Rattle.loading.specs.Loads.{table_after, table_mended}
use Rattle.model.proofs.Tests.{left, right}
use Rattle.guarantees.proofs.OneCall.{served_is, pass_rules}
use Rattle.guarantees.proofs.Made.{owner_enrolled}
use Rattle.layouts.specs.Runs.{Act, new, load, mend, on, batch, Ended, single, load_outcome, mend_outcome, acted, Does, Ran}
use Rattle.layouts.specs.Array.{Array, Sized, row_in, rows_in, view_of, row_of, put_clock, put_pair, put_row, put_out, signed_in, read_in, octets_in, number_in, owner_in, holder_in, refused_in, served_in, called_in, enrolled_in, enrol_in, closed_in, close_in, new_in, operated_in, refused_all, turn_in, put_rows, put_table, loaded_in, mended_in, acted_in, run_in}
use Rattle.layouts.proofs.ArrayLaws.{view_at, view_count, view_clock, view_put, view_row, closed_length, view_out, search_same, names_count}

-- What an operation leaves, as it is shown.
abbrev result : Array × Outcome → Result
result x = record { table = view_of x.0; outcome = x.1 }

-- ── Whose a call is ─────────────────────────────────────────────────────────────────────────────────────────────────

module _ (a : Array) where
  signed_same : (s : Signature) → signed_in a s ≡ signed_by (names_of (view_of a)) s
  signed_same unsigned = refl
  signed_same misplaced = refl
  signed_same (well_placed s) = search_same a _

  read_same : (r : Reading Message) → read_in a r ≡ read_by (names_of (view_of a)) r
  read_same (stops place) = refl
  read_same (reads m next) = signed_same (signature m.records)

  octets_same : (m : List ℕ) → octets_in a m ≡ octets_owner (names_of (view_of a)) m
  unfolding octets_in octets_owner
  octets_same m = ap (λ (o : Option ℕ). cond (size_ok m) o None) (read_same (read_message m))

  number_same : (number : ℕ) → number_in a number ≡ number_owner (names_of (view_of a)) number
  unfolding number_in number_owner
  number_same number = ap (λ (n : ℕ). cond (leb 1 number && leb number n) (Some (number - 1)) None) (sym (names_count a))

  owner_same : (c : Call) → owner_in a c ≡ owner_of (names_of (view_of a)) c
  unfolding owner_in owner_of
  owner_same (issue time number algorithm) = number_same number
  owner_same (revoke time number) = number_same number
  owner_same (look octets) = octets_same octets
  owner_same (message g room octets) = octets_same octets

  holder_same : (i : ℕ) → i < a.count → holder_in a i ≡ holder_at (view_of a) i
  unfolding holder_in holder_at suffix_at pair_at row_in
  holder_same i h = sym (ap {B = Holder} (λ (r : Row). holder (i + 1) r.suffix r.pair) (view_at a i h))

  -- ── A call ──────────────────────────────────────────────────────────────────────────────────────────────────────────

  module _ (z : Sized a) (room : a.count ≤ 64) (c : Call) where
    served_same : (o : Option ℕ) → owner_of (names_of (view_of a)) c ≡ o → served_by (view_of a) c o ≡ result (served_in a c o)
    served_same None e = refl
    served_same (Some i) e =
        let h : i < length (view_of a).rows = owner_enrolled (view_of a) c i e in
        let n : length (view_of a).rows ≡ a.count = view_count a in
        ap {B = Result} (λ (x : Holder). record { table = with_pair (view_of a) i (step_of x c).pair; outcome = (step_of x c).outcome }) (sym (holder_same i (omega arith)))
        ∙ ap {B = Result} (λ (t : Table). record { table = t; outcome = (step_of (holder_in a i) c).outcome }) (sym (view_put a i (step_of (holder_in a i) c).pair z.slots room (omega arith)))

-- Another clock changes nothing else.
sized_clock : (a : Array) (time : Option ℕ) → Sized a → Sized (put_clock a time)
unfolding put_clock
sized_clock a None z = z
sized_clock a (Some time) z = record { octets = z.octets; sizes = z.sizes; slots = z.slots }

count_clock : (a : Array) (time : Option ℕ) → (put_clock a time).count ≡ a.count
unfolding put_clock
count_clock a None = refl
count_clock a (Some time) = refl

-- A table that passes the gate has at most 64 rows.
rows_few : (a : Array) (time : Option ℕ) → gate (view_of a) time ≡ None → (put_clock a time).count ≤ 64
rows_few a time e =
    let n : length (view_of a).rows ≤ 64 = few (view_of a) (pass_rules (view_of a) time e) in
    let m : length (view_of a).rows ≡ a.count = view_count a in
    let k : (put_clock a time).count ≡ a.count = count_clock a time in
    omega arith

module _ (a : Array) (z : Sized a) where
  called_same : (c : Call) (g : Option ℕ) → gate (view_of a) (time_of c) ≡ g → passed (view_of a) c g ≡ result (called_in a c g)
  unfolding unchanged
  called_same c (Some n) e = refl
  called_same c None e =
      let b = put_clock a (time_of c) in
      ap (λ (t : Table). served t c) (sym (view_clock a (time_of c)))
      ∙ served_is (view_of b) c
      ∙ served_same b (sized_clock a (time_of c) z) (rows_few a (time_of c) e) c (owner_of (names_of (view_of b)) c) refl
      ∙ ap (λ (o : Option ℕ). result (served_in b c o)) (sym (owner_same b c))

-- ── Enrolment ───────────────────────────────────────────────────────────────────────────────────────────────────────

module _ (a : Array) where
  check_same : (n : ℕ) (b d : Bool) (x : Result) (y : Array × Outcome) → b ≡ d → (d ≡ true → x ≡ result y) → check (unchanged (view_of a)) n b x ≡ result (check (refused_in a) n d y)
  unfolding unchanged
  check_same n b d x y e f = ap (λ (z : Bool). check (unchanged (view_of a)) n z x) e ∙ go d f
    where
      go : (d : Bool) → (d ≡ true → x ≡ result y) → check (unchanged (view_of a)) n d x ≡ result (check (refused_in a) n d y)
      go true f = f refl
      go false f = refl

  known_same : (n : ℕ) (g : Option Algorithm) (x : Algorithm → Result) (y : Algorithm → Array × Outcome) → ((h : Algorithm) → x h ≡ result (y h)) → check_known (unchanged (view_of a)) n g x ≡ result (check_known (refused_in a) n g y)
  unfolding unchanged
  known_same n (Some h) x y f = f h
  known_same n None x y f = refl

module _ (a : Array) (z : Sized a) (suffix : List ℕ) (lifetime fresh algorithm : ℕ) where
  short : suffix_ok suffix ≡ true → length suffix ≤ 128
  unfolding suffix_ok
  short e = leb-true (length suffix) 128 (left _ _ (right (leb 3 (length suffix)) _ e))

  -- the pair that is added
  abbrev added : Algorithm → Pair
  added g = issued (fresh_pair a.floor lifetime fresh) a.clock g

  row_same : (g : Algorithm) → suffix_ok suffix ≡ true → ltb a.count 64 ≡ true → view_of (put_row a suffix (added g)) ≡ with_row (view_of a) suffix (added g)
  row_same g ok e = view_row a suffix (added g) z (ltb-true a.count 64 e) (short ok)

  enrolled_same : enrolled (view_of a) suffix lifetime fresh algorithm ≡ result (enrolled_in a suffix lifetime fresh algorithm)
  unfolding enrolled enrolled_in first_serial view_of
  enrolled_same =
      check_same a NAME (suffix_ok suffix) (suffix_ok suffix) _ _ refl λ ok.
      check_same a TERM (term_ok lifetime fresh) (term_ok lifetime fresh) _ _ refl λ term.
      known_same a TERM (algorithm_numbered algorithm) _ _ λ g.
      check_same a TWIN (is_none (row_named (names_of (view_of a)) suffix)) (is_none (row_of a suffix)) _ _ (ap (λ (o : Option ℕ). is_none o) (sym (search_same a suffix))) λ lone.
      check_same a FULL (ltb (length (view_of a).rows) 64) (ltb a.count 64) _ _ (ap (λ (n : ℕ). ltb n 64) (view_count a)) λ room.
      check_same a SPENT (ltb a.floor 0x1_0000_0000) (ltb a.floor 0x1_0000_0000) _ _ refl λ left.
      ap₂ {C = Result} (λ (t : Table) (n : ℕ). record { table = t; outcome = done (n + 1) a.floor }) (sym (row_same g ok room)) (view_count a)

-- ── Closing ─────────────────────────────────────────────────────────────────────────────────────────────────────────

-- a pair's number is that of a row
number_enrolled : (a : Array) (number i : ℕ) → number_in a number ≡ Some i → i < a.count
unfolding owner_of
number_enrolled a number i e =
    let h : i < length (view_of a).rows = owner_enrolled (view_of a) (revoke 0 number) i (sym (number_same a number) ∙ e) in
    let n : length (view_of a).rows ≡ a.count = view_count a in
    omega arith

closed_same : (a : Array) → Sized a → a.count ≤ 64 → (number : ℕ) → closed (view_of a) number ≡ result (closed_in a number)
unfolding closed closed_in unchanged
closed_same a z room number = ap (λ (o : Option ℕ). check_some (unchanged (view_of a)) NOPAIR o (λ i. record { table = without_row (view_of a) i; outcome = done 0 0 })) (sym (number_same a number)) ∙ go (number_in a number) refl
  where
    go : (o : Option ℕ) → number_in a number ≡ o → check_some (unchanged (view_of a)) NOPAIR o (λ i. record { table = without_row (view_of a) i; outcome = done 0 0 }) ≡ result (check_some (refused_in a) NOPAIR o (λ i. (put_out a i, done 0 0)))
    go None e = refl
    go (Some i) e = ap {B = Result} (λ (t : Table). record { table = t; outcome = done 0 0 }) (sym (view_out a i z room (number_enrolled a number i e)))

-- ── Every operation, and what it leaves of the arrays ───────────────────────────────────────────────────────────────

module _ (a : Array) (z : Sized a) where
  enrol_same :
      (time : ℕ) (suffix : List ℕ) (lifetime fresh algorithm : ℕ) (g : Option ℕ)
      → enrol_passed (view_of a) time suffix lifetime fresh algorithm g ≡ result (enrol_in a time suffix lifetime fresh algorithm g)
  unfolding unchanged
  enrol_same time suffix lifetime fresh algorithm (Some n) = refl
  enrol_same time suffix lifetime fresh algorithm None =
      ap (λ (t : Table). enrolled t suffix lifetime fresh algorithm) (sym (view_clock a (Some time)))
      ∙ enrolled_same (put_clock a (Some time)) (sized_clock a (Some time) z) suffix lifetime fresh algorithm

  close_same : (time number : ℕ) (g : Option ℕ) → gate (view_of a) (Some time) ≡ g → close_passed (view_of a) time number g ≡ result (close_in a time number g)
  unfolding unchanged
  close_same time number (Some n) e = refl
  close_same time number None e =
      ap (λ (t : Table). closed t number) (sym (view_clock a (Some time)))
      ∙ closed_same (put_clock a (Some time)) (sized_clock a (Some time) z) (rows_few a (Some time) e) number

  operates : (o : Operation) → operated (view_of a) o ≡ result (operated_in a o)
  unfolding operated operated_in enrol_on close_on called
  operates (enrol time suffix lifetime fresh algorithm) = enrol_same time suffix lifetime fresh algorithm (gate (view_of a) (Some time))
  operates (close time number) = close_same time number (gate (view_of a) (Some time)) refl
  operates (call c) = called_same a z c (gate (view_of a) (time_of c)) refl

  news : (time : ℕ) → new_table (view_of a) time ≡ result (new_in a time)
  unfolding new_table new_in view_of rows_in empty_table
  news time = check_same a TIME (time_fits time) (time_fits time) _ _ refl λ _. refl

sized_pair : (a : Array) (i : ℕ) (p : Pair) → Sized a → Sized (put_pair a i p)
unfolding put_pair
sized_pair a i p z = record { octets = z.octets; sizes = z.sizes; slots = length-set a.pairs i p ∙ z.slots }

sized_row : (a : Array) (suffix : List ℕ) (p : Pair) → a.count < 64 → length suffix ≤ 128 → Sized a → Sized (put_row a suffix p)
unfolding put_row
sized_row a suffix p h n z =
    let o : length a.suffixes ≡ 8192 = z.octets in
    record {
      octets = overlay_length suffix a.suffixes (a.count * 128) (omega arith) ∙ z.octets;
      sizes = length-set a.lengths a.count (length suffix) ∙ z.sizes;
      slots = length-set a.pairs a.count p ∙ z.slots;
    }

sized_served : (a : Array) (c : Call) (o : Option ℕ) → Sized a → Sized (served_in a c o).0
sized_served a c None z = z
sized_served a c (Some i) z = sized_pair a i _ z

sized_called : (a : Array) (c : Call) (g : Option ℕ) → Sized a → Sized (called_in a c g).0
sized_called a c (Some n) z = z
sized_called a c None z = sized_served (put_clock a (time_of c)) c (owner_in (put_clock a (time_of c)) c) (sized_clock a (time_of c) z)

-- what a chain of checks leaves, where its end is sized
module _ (a : Array) (z : Sized a) where
  checked : (n : ℕ) (b : Bool) (y : Array × Outcome) → (b ≡ true → Sized y.0) → Sized (check (refused_in a) n b y).0
  checked n true y f = f refl
  checked n false y f = z

  known : (n : ℕ) (g : Option Algorithm) (y : Algorithm → Array × Outcome) → ((h : Algorithm) → Sized (y h).0) → Sized (check_known (refused_in a) n g y).0
  known n (Some h) y f = f h
  known n None y f = z

  sized_enrolled : (suffix : List ℕ) (lifetime fresh algorithm : ℕ) → Sized (enrolled_in a suffix lifetime fresh algorithm).0
  unfolding enrolled_in
  sized_enrolled suffix lifetime fresh algorithm =
      checked NAME (suffix_ok suffix) _ λ ok.
      checked TERM (term_ok lifetime fresh) _ λ term.
      known TERM (algorithm_numbered algorithm) _ λ g.
      checked TWIN (is_none (row_of a suffix)) _ λ lone.
      checked FULL (ltb a.count 64) _ λ room.
      checked SPENT (ltb a.floor 0x1_0000_0000) _ λ left.
      sized_row a suffix _ (ltb-true a.count 64 room) (short a z suffix lifetime fresh algorithm ok) z

sized_enrol : (a : Array) (time : ℕ) (suffix : List ℕ) (lifetime fresh algorithm : ℕ) (g : Option ℕ) → Sized a → Sized (enrol_in a time suffix lifetime fresh algorithm g).0
sized_enrol a time suffix lifetime fresh algorithm (Some n) z = z
sized_enrol a time suffix lifetime fresh algorithm None z = sized_enrolled (put_clock a (Some time)) (sized_clock a (Some time) z) suffix lifetime fresh algorithm

sized_out : (a : Array) (i : ℕ) → i < 64 → Sized a → Sized (put_out a i)
unfolding put_out
sized_out a i h z =
    record {
      octets = closed_length (i * 128) 128 a.suffixes (omega (arith, z.octets)) ∙ z.octets;
      sizes = closed_length i 1 a.lengths (omega (arith, z.sizes)) ∙ z.sizes;
      slots = closed_length i 1 a.pairs (omega (arith, z.slots)) ∙ z.slots;
    }

sized_closed : (a : Array) (number : ℕ) → a.count ≤ 64 → Sized a → Sized (closed_in a number).0
unfolding closed_in
sized_closed a number few z = go (number_in a number) refl
  where
    go : (o : Option ℕ) → number_in a number ≡ o → Sized (check_some (refused_in a) NOPAIR o (λ i. (put_out a i, done 0 0))).0
    go None e = z
    go (Some i) e = sized_out a i (omega (arith, number_enrolled a number i e)) z

sized_close : (a : Array) (time number : ℕ) (g : Option ℕ) → gate (view_of a) (Some time) ≡ g → Sized a → Sized (close_in a time number g).0
sized_close a time number (Some n) e z = z
sized_close a time number None e z = sized_closed (put_clock a (Some time)) number (rows_few a (Some time) e) (sized_clock a (Some time) z)

sized_after : (a : Array) (o : Operation) → Sized a → Sized (operated_in a o).0
unfolding operated_in
sized_after a (enrol time suffix lifetime fresh algorithm) z = sized_enrol a time suffix lifetime fresh algorithm (gate (view_of a) (Some time)) z
sized_after a (close time number) z = sized_close a time number (gate (view_of a) (Some time)) refl z
sized_after a (call c) z = sized_called a c (gate (view_of a) (time_of c)) z

sized_new : (a : Array) (time : ℕ) → Sized a → Sized (new_in a time).0
unfolding new_in
sized_new a time z = checked a z TIME (time_fits time) _ λ _. record { octets = z.octets; sizes = z.sizes; slots = z.slots }

-- ── Loading and mending ─────────────────────────────────────────────────────────────────────────────────────────────

-- Rows put in one after another, each with a suffix of at most 128 octets.
put_rows_lem : (a : Array) (rs : List Row) → Sized a → a.count + length rs ≤ 64 → every suffix_ok (map (λ r. r.suffix) rs) ≡ true
    → (view_of (put_rows a rs) ≡ record { clock = a.clock; floor = a.floor; rows = (view_of a).rows ++ rs }) × Sized (put_rows a rs)
unfolding put_rows put_row view_of with_row
put_rows_lem a [] z h e = (ap {B = Table} (λ (l : List Row). record { clock = a.clock; floor = a.floor; rows = l }) (sym (append-nil (view_of a).rows)), z)
put_rows_lem a (r ∷ rs) z h e =
    let ok = suffix_short r.suffix (left (suffix_ok r.suffix) (every suffix_ok (map (λ r. r.suffix) rs)) e) in
    let rest = right (suffix_ok r.suffix) (every suffix_ok (map (λ r. r.suffix) rs)) e in
    let room : a.count < 64 = omega (arith, h) in
    let more = put_rows_lem (put_row a r.suffix r.pair) rs (sized_row a r.suffix r.pair room ok z) (omega (arith, h)) rest in
    let one = view_row a r.suffix r.pair z room ok in (
      more.0
          ∙ ap {B = Table} (λ (t : Table). record { clock = a.clock; floor = a.floor; rows = t.rows ++ rs }) one
          ∙ ap {B = Table} (λ (l : List Row). record { clock = a.clock; floor = a.floor; rows = l }) (append_assoc (view_of a).rows (r ∷ []) rs),
      more.1,
    )

-- A table that keeps the rules.
put_table_lem : (a : Array) (t : Table) → Sized a → table_rules t ≡ true → (view_of (put_table a t) ≡ t) × Sized (put_table a t)
unfolding put_table view_of rows_in names_of
put_table_lem a t z rule =
    let u = tests t rule in
    let few : length t.rows ≤ 64 = leb-true (length t.rows) 64 u.0 in
    put_rows_lem (record { clock = t.clock; floor = t.floor; count = 0; suffixes = a.suffixes; lengths = a.lengths; pairs = a.pairs }) t.rows
    (record { octets = z.octets; sizes = z.sizes; slots = z.slots }) (omega (arith, few)) u.1.1.0

module _ (a : Array) (z : Sized a) (text : List ℕ) where
  loaded_view : (l : Loaded) → model.load text ≡ l → view_of (loaded_in a l) ≡ table_after (view_of a) l
  loaded_view (no_line n) e = refl
  loaded_view no_table e = refl
  loaded_view (loaded t) e = (put_table_lem a t z (load_is text t e).rules).0

  sized_loaded : (l : Loaded) → model.load text ≡ l → Sized (loaded_in a l)
  sized_loaded (no_line n) e = z
  sized_loaded no_table e = z
  sized_loaded (loaded t) e = (put_table_lem a t z (load_is text t e).rules).1

  -- what is mended in some room is mended
  in_room_lem : (room : ℕ) (t : Table) (ds : List Dropped) → mend_in room text ≡ mended t ds → table_rules t ≡ true
  in_room_lem room t ds e = (mend_sound text t ds (mend_in_lem room text t ds e).0).rules

  mended_view : (room : ℕ) (m : Mended) → mend_in room text ≡ m → view_of (mended_in a m) ≡ table_mended (view_of a) m
  mended_view room no_clock e = refl
  mended_view room no_rule e = refl
  mended_view room no_room e = refl
  mended_view room (mended t ds) e = (put_table_lem a t z (in_room_lem room t ds e)).0

  sized_mended : (room : ℕ) (m : Mended) → mend_in room text ≡ m → Sized (mended_in a m)
  sized_mended room no_clock e = z
  sized_mended room no_rule e = z
  sized_mended room no_room e = z
  sized_mended room (mended t ds) e = (put_table_lem a t z (in_room_lem room t ds e)).1

-- ── Batches, and every act ──────────────────────────────────────────────────────────────────────────────────────────

abbrev batched : Array × Ended → Batched
batched r = record { number = r.1.0; table = view_of r.0; outcomes = r.1.1 }

turn_same : (octets : List ℕ) (a : Array) (room : ℕ) (xs : List BatchItem) → Sized a → in_turn octets (view_of a) room xs ≡ batched (turn_in octets a room xs)
unfolding in_turn turn_in operated
turn_same octets a room [] z = refl
turn_same octets a room (x ∷ xs) z =
    let c = call (item_call octets room x) in
    let r = operated_in a c in
    ap (λ (q : Result). behind q.outcome (in_turn octets q.table (room - length q.outcome.reply) xs)) (operates a z c)
    ∙ ap (behind r.1) (turn_same octets r.0 (room - length r.1.reply) xs (sized_after a c z))

sized_turn : (octets : List ℕ) (a : Array) (room : ℕ) (xs : List BatchItem) → Sized a → Sized (turn_in octets a room xs).0
unfolding turn_in
sized_turn octets a room [] z = z
sized_turn octets a room (x ∷ xs) z = sized_turn octets (operated_in a (call (item_call octets room x))).0 _ xs (sized_after a (call (item_call octets room x)) z)

module _ (octets : List ℕ) (a : Array) (room : ℕ) (xs : List BatchItem) (z : Sized a) where
  batch_same : (b o : Bool)
      → check (refused_whole (view_of a)) TABLE b (check (refused_whole (view_of a)) BATCH o (in_turn octets (view_of a) room xs))
      ≡ batched (check (refused_all a) TABLE b (check (refused_all a) BATCH o (turn_in octets a room xs)))
  unfolding refused_whole
  batch_same false o = refl
  batch_same true false = refl
  batch_same true true = turn_same octets a room xs z

  sized_batch : (b o : Bool) → Sized (check (refused_all a) TABLE b (check (refused_all a) BATCH o (turn_in octets a room xs))).0
  sized_batch false o = z
  sized_batch true false = z
  sized_batch true true = sized_turn octets a room xs z

does : (a : Array) → Sized a → (o : Act) → Does view_of a o (acted_in a o).0 (acted_in a o).1
unfolding acted acted_in batch_on
does a z (new time) = ap single (news a z time)
does a z (load text) = ap (λ (t : Table). single (record { table = t; outcome = load_outcome (model.load text) })) (sym (loaded_view a z text (model.load text) refl))
does a z (mend room text) = ap (λ (t : Table). single (record { table = t; outcome = mend_outcome (mend_in room text) })) (sym (mended_view a z text room (mend_in room text) refl))
does a z (on o) = ap single (operates a z o)
does a z (batch octets xs room) = batch_same octets a room xs z (table_rules (view_of a)) (batch_ok octets xs)

sized_then : (a : Array) (o : Act) → Sized a → Sized (acted_in a o).0
unfolding acted_in
sized_then a (new time) z = sized_new a time z
sized_then a (load text) z = sized_loaded a z text (model.load text) refl
sized_then a (mend room text) z = sized_mended a z text room (mend_in room text) refl
sized_then a (on o) z = sized_after a o z
sized_then a (batch octets xs room) z = sized_batch octets a room xs z (table_rules (view_of a)) (batch_ok octets xs)

-- Its runs are runs.
pub ran : (a : Array) (os : List Act) → Sized a → Ran view_of a os (run_in a os)
ran a [] z = tt
ran a (o ∷ os) z = (does a z o, ran (acted_in a o).0 os (sized_then a o z))
