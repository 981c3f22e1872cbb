-- Worked examples of the inquiries, computed by antt: each answer, each refusal, and refusals in their order. Assumes nothing.
use Prim.Native.Nat.{ℕ}
use mathlib.Core.Path.{◌≡◌, refl}
use Rattle.std.specs.Prelude.{Option, None, Some}
use mathlib.Core.List.{List, [], ◌∷◌, ◌++◌}
use lib.ListN.{replicate}
use Rattle.model.specs.declared.Algorithm.TheVariants.{Sha256, Sha384}
use Rattle.model.specs.declared.Keys.{Keys}
use Rattle.model.specs.declared.Keys.TheVariants.{Empty, Adopted, Renewing}
use Rattle.model.specs.declared.FoundPair.{FoundPair}
use Rattle.model.specs.declared.ShownPair.{ShownPair}
use Rattle.model.specs.declared.Moves.{Moves}
use Rattle.model.specs.Names.{key_name, algorithm_name}
use Rattle.model.specs.Tables.{Table, pair_at}
use Rattle.model.specs.Replies.{record_octets, tkey_data}
use Rattle.model.specs.Calls.{empty_table, issue, revoke}
use Rattle.model.specs.Runs.{Operation, enrol, call, operated}
use Rattle.model.specs.Inquiries.{tested, unfound, found_in, pair_named, pair_suffixed, pair_of_key, Spelt, unspelt, below_next, spelt_in, key_name_in, key_name_of, unshown, shown_in, pair_shown, adopted_serial, waiting_serial, is_among, unless, moves_of, Asks, unasked_at, unasked, number_named, asks_by, asks_of}
use Rattle.model.proofs.Requests.{suffix, other_suffix, header_of, header, question, root_query, ordinary, old, key_record, renewal_of, renewal_by, tkey_by, adoption_by}
use Rattle.model.proofs.Running.{after}
use Rattle.model.proofs.Day.{opening, at, key, first, twice}
use Rattle.model.proofs.Edges.{row, table_of}

-- Every definition of inquiries opened.
unfoldable opened : ℕ → ℕ
unfolding after tested unfound found_in pair_named pair_suffixed pair_of_key unspelt below_next spelt_in key_name_in key_name_of unshown shown_in pair_shown adopted_serial waiting_serial is_among unless moves_of unasked_at unasked number_named asks_by asks_of
opened n = n

-- ── Of a table ──────────────────────────────────────────────────────────────────────────────────────────────────────

-- a.example., whose key 2 is adopted and key 1 gone; b.example., whose key 1 is adopted. And the same with a clock that no table has.
abbrev two : ℕ → Table
two clock = table_of clock (row suffix 600 400 3 (Adopted (key 2 1200 1600 1800)) ∷ row other_suffix 600 400 2 (Adopted first) ∷ [])

abbrev table : Table
table = two 1300

abbrev broken : Table
broken = two 0x1_0000_0000_0000

pub tests : (tested table ≡ 0) × (tested broken ≡ 1) × (tested (empty_table 5) ≡ 0)
unfolding opened
tests = (refl, refl, refl)

abbrev pair : ℕ → FoundPair
pair n = record { number = 0; pair = n }

abbrev none_of : ℕ → FoundPair
none_of n = record { number = n; pair = 0 }

-- b.example., and B.EXAMPLE.
abbrev capitals : List ℕ
capitals = 1 ∷ 66 ∷ 7 ∷ 69 ∷ 88 ∷ 65 ∷ 77 ∷ 80 ∷ 76 ∷ 69 ∷ 0 ∷ []

pub suffixes :
    (pair_suffixed table suffix ≡ pair 1)
    × (pair_suffixed table other_suffix ≡ pair 2)
    × (pair_suffixed table capitals ≡ pair 2)
    -- a key's name, the root and no octets are no pair's suffix; TABLE comes first
    × (pair_suffixed table (key_name 1 suffix) ≡ none_of 9)
    × (pair_suffixed table (0 ∷ []) ≡ none_of 9)
    × (pair_suffixed table [] ≡ none_of 9)
    × (pair_suffixed broken suffix ≡ none_of 1)
    × (pair_suffixed broken [] ≡ none_of 1)
unfolding opened
suffixes = (refl, refl, refl, refl, refl, refl, refl, refl)

pub keys :
    (pair_of_key table (key_name 2 suffix) ≡ pair 1)
    -- a key that was never made; a first label that is no serial; capitals
    × (pair_of_key table (key_name 99 other_suffix) ≡ pair 2)
    × (pair_of_key table (3 ∷ 102 ∷ 111 ∷ 111 ∷ other_suffix) ≡ pair 2)
    × (pair_of_key table (1 ∷ 49 ∷ capitals) ≡ pair 2)
    -- the suffix itself, two labels before it, the root
    × (pair_of_key table suffix ≡ none_of 9)
    × (pair_of_key table (1 ∷ 49 ∷ key_name 2 suffix) ≡ none_of 9)
    × (pair_of_key table (0 ∷ []) ≡ none_of 9)
    -- no name: no octets, cut, an octet more, a pointer; and TABLE comes first
    × (pair_of_key table [] ≡ none_of 12)
    × (pair_of_key table (1 ∷ 50 ∷ 1 ∷ 97 ∷ []) ≡ none_of 12)
    × (pair_of_key table (key_name 2 suffix ++ (0 ∷ [])) ≡ none_of 12)
    × (pair_of_key table (1 ∷ 50 ∷ 192 ∷ 12 ∷ []) ≡ none_of 12)
    × (pair_of_key broken [] ≡ none_of 1)
unfolding opened
keys = (refl, refl, refl, refl, refl, refl, refl, refl, refl, refl, refl, refl)

abbrev spelt : ℕ → List ℕ → Spelt
spelt n octets = record { number = n; octets = octets }

abbrev name_of2 : List ℕ
name_of2 = 1 ∷ 50 ∷ 1 ∷ 97 ∷ 7 ∷ 101 ∷ 120 ∷ 97 ∷ 109 ∷ 112 ∷ 108 ∷ 101 ∷ 0 ∷ []

pub key_names :
    (key_name_of table 1 2 512 ≡ spelt 0 name_of2)
    × (key_name_of table 1 2 13 ≡ spelt 0 name_of2)
    -- a key that is gone
    × (key_name_of table 1 1 512 ≡ spelt 0 (key_name 1 suffix))
    × (key_name_of table 2 1 512 ≡ spelt 0 (key_name 1 other_suffix))
    -- ROOM, NOKEY, NOPAIR, TABLE, each before those that come after it
    × (key_name_of table 1 2 12 ≡ spelt 8 [])
    × (key_name_of table 1 0 0 ≡ spelt 10 [])
    × (key_name_of table 1 3 512 ≡ spelt 10 [])
    × (key_name_of table 2 2 512 ≡ spelt 10 [])
    × (key_name_of table 0 0 0 ≡ spelt 9 [])
    × (key_name_of table 3 1 512 ≡ spelt 9 [])
    × (key_name_of broken 3 0 0 ≡ spelt 1 [])
    -- a pair that was enrolled at the floor 5: no key of it had the serial 3, and it has a name all the same
    × (key_name_of (operated (record { clock = 1000; floor = 5; rows = [] }) (enrol 1000 suffix 600 400 256)).table 1 3 512 ≡ spelt 0 (key_name 3 suffix))
unfolding opened
key_names = (refl, refl, refl, refl, refl, refl, refl, refl, refl, refl, refl, refl)

abbrev showing : ℕ → ℕ → ℕ → ℕ → Keys → ShownPair
showing n lifetime fresh next keys = record { number = n; pair = record { lifetime = lifetime; fresh = fresh; next_serial = next; keys = keys } }

pub pairs_shown :
    (pair_shown table 1 ≡ showing 0 600 400 3 (Adopted (key 2 1200 1600 1800)))
    × (pair_shown table 2 ≡ showing 0 600 400 2 (Adopted first))
    × (pair_shown table 0 ≡ showing 9 0 0 0 Empty)
    × (pair_shown table 3 ≡ showing 9 0 0 0 Empty)
    × (pair_shown broken 3 ≡ showing 1 0 0 0 Empty)
unfolding opened
pairs_shown = (refl, refl, refl, refl, refl)

-- ── Of a pair before and after a call: 01, "One day at the counter" ─────────────────────────────────────────────────

-- The keys of pair 1 after operations on the day's table; and what one more operation does to them.
abbrev keys_after : List Operation → Keys
keys_after os = (pair_at (after (after (empty_table 1000) opening) os) 0).keys

abbrev moved : ℕ → ℕ → ℕ → ℕ → Moves
moved made adopted ended dropped = record { made = made; adopted = adopted; ended = ended; dropped = dropped }

abbrev moves_by : List Operation → Operation → Moves
moves_by before o = moves_of (keys_after before) (pair_at (operated (after (after (empty_table 1000) opening) before) o).table 0).keys

pub moves_of_the_day :
    -- the renewal at 1200 makes key 2; again at 1201: key 3, key 2 dropped
    (moves_by [] (at 1200 (renewal_by 1 1200)) ≡ moved 2 0 0 0)
    × (moves_by (at 1200 (renewal_by 1 1200) ∷ []) (at 1201 (renewal_by 1 1201)) ≡ moved 3 0 0 2)
    -- the adoption of key 3 ends key 1; one that is refused moves nothing, nor does a query or revoking early
    × (moves_by twice (at 1202 (adoption_by 1 3 1202)) ≡ moved 0 3 1 0)
    × (moves_by twice (at 1202 (adoption_by 1 2 1202)) ≡ moved 0 0 0 0)
    × (moves_by [] (at 1200 (ordinary 1 1200)) ≡ moved 0 0 0 0)
    × (moves_by twice (call (revoke 1202 1)) ≡ moved 0 0 0 0)
    -- issue makes key 4, and keys 1 and 3 go; key 1 is deleted by its own request
    × (moves_by twice (call (issue 1202 1 256)) ≡ moved 4 0 1 3)
    × (moves_by [] (at 1200 (tkey_by 1 1 5 [] [] 1200)) ≡ moved 0 0 1 0)
unfolding opened opening
moves_of_the_day = (refl, refl, refl, refl, refl, refl, refl, refl)

-- Both keys deleted; the waiting key withdrawn; a first key; and keys that no call leaves: 5 and 6 after 1 and 2.
pub other_moves :
    (moves_of (Renewing first (key 2 1200 1600 1800)) Empty ≡ moved 0 0 1 2)
    × (moves_of (Renewing first (key 2 1200 1600 1800)) (Adopted first) ≡ moved 0 0 0 2)
    × (moves_of Empty (Adopted first) ≡ moved 1 0 0 0)
    × (moves_of Empty Empty ≡ moved 0 0 0 0)
    × (moves_of (Renewing first (key 2 1200 1600 1800)) (Renewing (key 5 0 0 0) (key 6 0 0 0)) ≡ moved 6 0 1 2)
unfolding opened
other_moves = (refl, refl, refl, refl, refl)

-- ── Of a message ────────────────────────────────────────────────────────────────────────────────────────────────────

abbrev refuses : ℕ → ℕ → Asks
refuses n place = record { number = n; place = place; mode = 0; algorithm = 0; inception = 0; expiration = 0; key = []; second = None }

abbrev asks : ℕ → ℕ → ℕ → ℕ → List ℕ → Option (List ℕ) → Asks
asks mode algorithm inception expiration key second =
    record { number = 0; place = 0; mode = mode; algorithm = algorithm; inception = inception; expiration = expiration; key = key; second = second }

-- A TKEY for hmac-sha384 of this mode and with key data of two octets, and these records behind it, of `count` records in all.
abbrev request_of : ℕ → ℕ → List ℕ → List ℕ
request_of mode count behind =
    header 0 count
    ++ (question (0 ∷ []) 249 255 ++ (record_octets (0 ∷ []) 249 255 0 (tkey_data (algorithm_name Sha384) 1000 1600 mode 0 (7 ∷ 8 ∷ []) (old 1)) ++ behind))

-- Another KEY record.
abbrev other_key : List ℕ
other_key = record_octets (0 ∷ []) 25 255 0 (9 ∷ [])

pub requests :
    -- a renewal by its KEY record; for an algorithm that no key has; an adoption, and a deletion with key data
    (asks_of (renewal_by 1 1200) ≡ asks 4098 256 1200 1800 [] (Some (2 ∷ 0 ∷ 3 ∷ 1 ∷ [])))
    × (asks_of (renewal_of (4 ∷ 104 ∷ 109 ∷ 97 ∷ 99 ∷ 0 ∷ []) 1 1200 1800 1200) ≡ asks 4098 0 1200 1800 [] (Some (2 ∷ 0 ∷ 3 ∷ 1 ∷ [])))
    × (asks_of (adoption_by 1 3 1202) ≡ asks 4100 256 0 0 [] None)
    × (asks_of (tkey_by 1 1 5 (1 ∷ 2 ∷ 3 ∷ []) [] 1200) ≡ asks 5 256 0 0 (1 ∷ 2 ∷ 3 ∷ []) None)
    -- signed or not; with one KEY, with none, with two
    × (asks_of (request_of 4097 2 key_record) ≡ asks 4097 384 1000 1600 (7 ∷ 8 ∷ []) (Some (2 ∷ 0 ∷ 3 ∷ 1 ∷ [])))
    × (asks_of (request_of 4099 1 []) ≡ asks 4099 384 1000 1600 (7 ∷ 8 ∷ []) None)
    × (asks_of (request_of 4097 3 (key_record ++ other_key)) ≡ asks 4097 384 1000 1600 (7 ∷ 8 ∷ []) None)
    -- a KEY with no data is one
    × (asks_of (request_of 4099 2 (record_octets (0 ∷ []) 25 255 0 [])) ≡ asks 4099 384 1000 1600 (7 ∷ 8 ∷ []) (Some []))
    -- a TKEY of mode 0 reads as asking for nothing; a mode that is unknown as itself
    × (asks_of (request_of 0 1 []) ≡ asks 0 384 1000 1600 (7 ∷ 8 ∷ []) None)
    × (asks_of (request_of 77 1 []) ≡ asks 77 384 1000 1600 (7 ∷ 8 ∷ []) None)
unfolding opened
requests = (refl, refl, refl, refl, refl, refl, refl, refl, refl, refl)

-- Nothing is asked: an ordinary query, a query with a TKEY in it, a TKEY request without TKEY, with two, with one that is ill formed (it names no old key).
pub nothing_asked_lem :
    (asks_of (ordinary 1 1200) ≡ refuses 0 0)
    × (asks_of (header 0 2 ++ (root_query ++ (record_octets (0 ∷ []) 249 255 0 (tkey_data (algorithm_name Sha256) 0 0 5 0 [] []) ++ key_record))) ≡ refuses 0 0)
    × (asks_of (header 0 1 ++ (question (0 ∷ []) 249 255 ++ key_record)) ≡ refuses 0 0)
    × (asks_of (request_of 5 2 (record_octets (0 ∷ []) 249 255 0 (tkey_data (algorithm_name Sha256) 0 0 5 0 [] []))) ≡ refuses 0 0)
    × (asks_of (header 0 1 ++ (question (0 ∷ []) 249 255 ++ record_octets (0 ∷ []) 249 255 0 (tkey_data (algorithm_name Sha256) 0 0 4098 0 [] []))) ≡ refuses 0 0)
unfolding opened
nothing_asked_lem = (refl, refl, refl, refl, refl)

-- SIZE, FORMAT with its place, NOTQUERY, each before those that come after it.
pub unread :
    (asks_of (replicate 11 255) ≡ refuses 4 0)
    × (asks_of (replicate 12 255) ≡ refuses 6 12)
    × (asks_of (request_of 5 1 [] ++ (0 ∷ [])) ≡ refuses 6 85)
    × (asks_of (header_of 4660 0x8000 1 0 0 0 ++ question (0 ∷ []) 249 255) ≡ refuses 7 0)
    × (asks_of (header_of 4660 0x8000 1 0 0 0 ++ (0 ∷ 0 ∷ [])) ≡ refuses 6 14)
unfolding opened
unread = (refl, refl, refl, refl, refl)
