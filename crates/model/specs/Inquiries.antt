-- What a name server asks beside the calls, of a table and of a message, so that it needs no reader of either of its own. An inquiry takes no time and
-- changes nothing. It ends with a number of 01's list, refusals in their order, and with what it tells: nothing where it is refused. Assumes nothing.
use Rattle.std.specs.Prelude.{ℕ, ◌+◌, max, Bool, cond, not, ◌&&◌, ◌||◌, List, [], length, leb, ltb, eqb, Option, None, Some}
use Rattle.model.specs.declared.Algorithm.{Algorithm}
use Rattle.model.specs.declared.Key.{Key}
use Rattle.model.specs.declared.Keys.{Keys}
use Rattle.model.specs.declared.Pair.{Pair}
use Rattle.model.specs.declared.FoundPair.{FoundPair}
use Rattle.model.specs.declared.ShownPair.{ShownPair}
use Rattle.model.specs.declared.Moves.{Moves}
use Rattle.model.specs.Names.{wire_name, key_name, after_label, algorithm_named, algorithm_number}
use Rattle.model.specs.Messages.{Record, read_message}
use Rattle.model.specs.Tkey.{Tkey, Contents, contents_of}
use Rattle.model.specs.Tables.{Table, no_pair, suffix_at, pair_at, names_of, row_named, table_rules}
use Rattle.model.specs.Checks.{check, check_place, check_some}
use Rattle.model.specs.Judging.{adopted_of, waiting_of}
use Rattle.model.specs.Calls.{DONE, TABLE, SIZE, FORMAT, NOTQUERY, ROOM, NOPAIR, NOKEY, NAME, size_ok, number_owner}

-- ── Of a table ──────────────────────────────────────────────────────────────────────────────────────────────────────

-- TABLE: a table rule is broken.
unfoldable pub tested : Table → ℕ
tested t = check (λ n. n) TABLE (table_rules t) DONE

-- An inquiry after a pair that is refused, and one that ends with the pair in row i.
unfoldable pub unfound : ℕ → FoundPair
unfound n = record { number = n; pair = 0 }

unfoldable pub found_in : ℕ → FoundPair
found_in i = record { number = DONE; pair = i + 1 }

-- NOPAIR, or the pair with this suffix, compared without regard to case.
unfoldable pub pair_named : Table → List ℕ → FoundPair
pair_named t name = check_some unfound NOPAIR (row_named (names_of t) name) found_in

-- The pair with this suffix: TABLE, NOPAIR.
unfoldable pub pair_suffixed : Table → List ℕ → FoundPair
pair_suffixed t name = check unfound TABLE (table_rules t) (pair_named t name)

-- The pair whose suffix follows the first label of this name, as a message belongs to it by its TSIG's name (`signed_by`), whether or not such a key exists:
-- TABLE, NAME (no uncompressed wire name), NOPAIR.
unfoldable pub pair_of_key : Table → List ℕ → FoundPair
pair_of_key t name = check unfound TABLE (table_rules t) (check unfound NAME (wire_name name) (pair_named t (after_label name)))

-- A number of the list, and octets that fill the first of a lent buffer: none where the inquiry is refused.
pub record Spelt : Type 0 where
  pub number : ℕ
  pub octets : List ℕ

unfoldable pub unspelt : ℕ → Spelt
unspelt n = record { number = n; octets = [] }

-- A serial that the pair does not give any more: it is 1 or more, and below the next one. (A pair starts at the floor of its enrolment, which the table does not
-- keep: below it no key of the pair was ever made.)
unfoldable pub below_next : Pair → ℕ → Bool
below_next p serial = leb 1 serial && ltb serial p.next_serial

-- ROOM, then the octets.
unfoldable pub spelt_in : ℕ → List ℕ → Spelt
spelt_in room octets = check unspelt ROOM (leb (length octets) room) (record { number = DONE; octets = octets })

-- The name of the key with this serial, there or gone, in the pair of row i: NOKEY, ROOM.
unfoldable pub key_name_in : Table → ℕ → ℕ → ℕ → Spelt
key_name_in t serial room i = check unspelt NOKEY (below_next (pair_at t i) serial) (spelt_in room (key_name serial (suffix_at t i)))

-- The same in the pair of this number: TABLE, NOPAIR, NOKEY, ROOM.
unfoldable pub key_name_of : Table → ℕ → ℕ → ℕ → Spelt
key_name_of t pair serial room =
    check unspelt TABLE (table_rules t)
    (check_some unspelt NOPAIR (number_owner (names_of t) pair) (key_name_in t serial room))

-- An inquiry into a pair that is refused, and one that ends with what the pair in row i is, but for its suffix.
unfoldable pub unshown : ℕ → ShownPair
unshown n = record { number = n; pair = no_pair }

unfoldable pub shown_in : Table → ℕ → ShownPair
shown_in t i = record { number = DONE; pair = pair_at t i }

-- The pair of this number: TABLE, NOPAIR.
unfoldable pub pair_shown : Table → ℕ → ShownPair
pair_shown t pair =
    check unshown TABLE (table_rules t)
    (check_some unshown NOPAIR (number_owner (names_of t) pair) (shown_in t))

-- ── Of a pair before and after a call ───────────────────────────────────────────────────────────────────────────────

-- Keys are told apart by their serials, which a pair gives once; 0 stands for no key.
abbrev pub serial_of : Option Key → ℕ
serial_of None = 0
serial_of (Some k) = k.serial

unfoldable pub adopted_serial : Keys → ℕ
adopted_serial keys = serial_of (adopted_of keys)

unfoldable pub waiting_serial : Keys → ℕ
waiting_serial keys = serial_of (waiting_of keys)

unfoldable pub is_among : Keys → ℕ → Bool
is_among keys serial = eqb serial (adopted_serial keys) || eqb serial (waiting_serial keys)

-- This serial, but 0 where it is among these keys.
unfoldable pub unless : Keys → ℕ → ℕ
unless keys serial = cond (is_among keys serial) 0 serial

-- `made` is there after and was not there before (one call makes at most one key; of two it would be the newer); `adopted` was waiting before and is adopted
-- after; `ended` was adopted before and is not there after; `dropped` was waiting before and is not there after.
unfoldable pub moves_of : Keys → Keys → Moves
moves_of before after =
    record {
      made = max (unless before (adopted_serial after)) (unless before (waiting_serial after));
      adopted = cond (eqb (waiting_serial before) (adopted_serial after)) (waiting_serial before) 0;
      ended = unless after (adopted_serial before);
      dropped = unless after (waiting_serial before);
    }

-- ── Of a message ────────────────────────────────────────────────────────────────────────────────────────────────────

-- What a TKEY request asks for. `place` is where reading failed, beside FORMAT; the algorithm is 256, 384 or 512, or 0 for any other name; `key` is the TKEY's
-- key data, and `second` the data of the only KEY record of the additional section.
pub record Asks : Type 0 where
  pub number : ℕ
  pub place : ℕ
  pub mode : ℕ
  pub algorithm : ℕ
  pub inception : ℕ
  pub expiration : ℕ
  pub key : List ℕ
  pub second : Option (List ℕ)

unfoldable pub unasked_at : ℕ → ℕ → Asks
unasked_at n place = record { number = n; place = place; mode = 0; algorithm = 0; inception = 0; expiration = 0; key = []; second = None }

unfoldable pub unasked : ℕ → Asks
unasked n = unasked_at n 0

-- FORMAT, with the octet where reading first failed.
abbrev pub unread_at : ℕ → Asks
unread_at place = unasked_at FORMAT place

unfoldable pub number_named : Option Algorithm → ℕ
number_named (Some g) = algorithm_number g
number_named None = 0

abbrev pub content_of : Option Record → Option (List ℕ)
content_of None = None
content_of (Some r) = Some r.content

-- With no well formed TKEY nothing is asked: mode 0, which is reserved, and all else empty.
abbrev pub asks_with : Option Record → Option Tkey → Asks
asks_with second None = unasked DONE
asks_with second (Some t) =
    record {
      number = DONE;
      place = 0;
      mode = t.mode;
      algorithm = number_named (algorithm_named t.algorithm);
      inception = t.inception;
      expiration = t.expiration;
      key = t.key;
      second = content_of second;
    }

-- So of what is no TKEY request. A TKEY whose own mode is 0 reads as asking for nothing too.
unfoldable pub asks_by : Contents → Asks
asks_by c = cond c.request (asks_with c.key c.tkey) (unasked DONE)

-- SIZE, FORMAT, NOTQUERY, in the order of look; then what is asked. Whether the message is signed, and well, is not looked at.
unfoldable pub asks_of : List ℕ → Asks
asks_of octets =
    check unasked SIZE (size_ok octets)
    (check_place unread_at (read_message octets) λ m.
    check unasked NOTQUERY (not m.response)
    (asks_by (contents_of m)))
