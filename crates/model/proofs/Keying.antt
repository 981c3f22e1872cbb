-- Worked examples of 02, CR 10, computed by antt: a granted renewal of each scheme in full octets, each way that a request of each scheme can end, in their
-- order, and what is lent. Assumes nothing.
use Prim.Native.Nat.{ℕ, ◌+◌}
use mathlib.Core.Path.{◌≡◌, refl}
use mathlib.Core.Bool.{Bool, true, false}
use Rattle.std.specs.Prelude.{Option, None, Some, slice_get}
use mathlib.Core.List.{List, [], ◌∷◌, ◌++◌, map}
use lib.ListN.{length, replicate}
use Rattle.model.specs.declared.Algorithm.TheVariants.{Sha256}
use Rattle.model.specs.declared.BatchItem.{BatchItem}
use Rattle.model.specs.declared.Key.{Key}
use Rattle.model.specs.declared.Keys.TheVariants.{Adopted, Renewing}
use Rattle.model.specs.declared.Pair.{Pair}
use Rattle.model.specs.Names.{key_name, algorithm_name}
use Rattle.model.specs.Messages.{read_message}
use Rattle.model.specs.Tables.{Table, pair_at, with_clock}
use Rattle.model.specs.Replies.{record_octets, tkey_data}
use Rattle.model.specs.Calls.{KEYREC, Outcome, Result, empty_table, unchanged, message}
use Rattle.model.specs.Runs.{call, operated}
use Rattle.model.specs.Batches.{BATCH, inside, batch_ok, given_by, item_call, refused_whole, in_turn, batch_on, calls_of, batch}
use Rattle.model.proofs.Requests.{suffix, header_of, header, question, tsig, ordinary, old, key_record, tkey_by, adoption_by}
use Rattle.model.proofs.Running.{after}
use Rattle.model.proofs.Day.{opening, key, first, reply_error}

-- A request by key 1 at `time` with this TKEY data, and these KEY records, `count` of them.
abbrev pub request : ℕ → List ℕ → ℕ → List ℕ → List ℕ
request time content count keys =
    header 0 (2 + count) ++ (question (0 ∷ []) 249 255 ++ (record_octets (0 ∷ []) 249 255 0 content ++ (keys ++ tsig 1 time)))

-- One of this mode, with key data 7, 8 and inception 1200: the old key that it names, its algorithm, its expiration, and its KEY records.
abbrev pub asking : ℕ → ℕ → ℕ → List ℕ → ℕ → ℕ → List ℕ → List ℕ
asking time mode named algorithm expiration count keys =
    request time (tkey_data algorithm 1200 expiration mode 0 (7 ∷ 8 ∷ []) (old named)) count keys

-- One that keeps every rule.
abbrev pub good : ℕ → List ℕ
good mode = asking 1200 mode 1 (algorithm_name Sha256) 1800 1 key_record

-- The server's KEY record, owner s., and a nonce.
abbrev pub server : List ℕ
server = record_octets (1 ∷ 115 ∷ 0 ∷ []) 25 1 60 (2 ∷ 0 ∷ 2 ∷ 9 ∷ 9 ∷ [])

abbrev pub nonce : List ℕ
nonce = 1 ∷ 2 ∷ 3 ∷ 4 ∷ []

-- The message call, its signature good, with this offer, keying verdict and second KEY record; and on the day's table.
abbrev asked : Table → ℕ → List ℕ → Bool → List ℕ → ℕ → List ℕ → Result
asked t time offer fits second room octets =
    operated t (call (message (record { now = time; good = true; offer = offer; fits = fits; second = second }) room octets))

abbrev served : ℕ → List ℕ → Bool → List ℕ → ℕ → List ℕ → Result
served time offer fits second room octets = asked (after (empty_table 1000) opening) time offer fits second room octets

-- ── Granted, in full octets ─────────────────────────────────────────────────────────────────────────────────────────

-- 4097: the nonce is the key data, the server's KEY record follows the TKEY in the answer, and the request's KEY is echoed behind it
pub diffie_hellman :
    (served 1200 nonce true server 512 (good 4097)).outcome.reply
    ≡ 18 ∷ 52 ∷ 128 ∷ 0 ∷ 0 ∷ 1 ∷ 0 ∷ 2 ∷ 0 ∷ 0 ∷ 0 ∷ 1 ∷ 0 ∷ 0 ∷ 249 ∷ 0 ∷ 255 ∷ 1 ∷ 50 ∷ 1 ∷ 97 ∷ 7 ∷ 101 ∷ 120 ∷ 97 ∷ 109 ∷ 112 ∷ 108 ∷ 101 ∷ 0 ∷ 0 ∷ 249 ∷ 0 ∷ 255 ∷ 0 ∷ 0 ∷ 0 ∷ 0 ∷ 0 ∷ 59 ∷ 11 ∷ 104 ∷ 109 ∷ 97 ∷ 99 ∷ 45 ∷ 115 ∷ 104 ∷ 97 ∷ 50 ∷ 53 ∷ 54 ∷ 0 ∷ 0 ∷ 0 ∷ 4 ∷ 176 ∷ 0 ∷ 0 ∷ 7 ∷ 8 ∷ 16 ∷ 1 ∷ 0 ∷ 0 ∷ 0 ∷ 4 ∷ 1 ∷ 2 ∷ 3 ∷ 4 ∷ 0 ∷ 26 ∷ 1 ∷ 49 ∷ 1 ∷ 97 ∷ 7 ∷ 101 ∷ 120 ∷ 97 ∷ 109 ∷ 112 ∷ 108 ∷ 101 ∷ 0 ∷ 11 ∷ 104 ∷ 109 ∷ 97 ∷ 99 ∷ 45 ∷ 115 ∷ 104 ∷ 97 ∷ 50 ∷ 53 ∷ 54 ∷ 0 ∷ 1 ∷ 115 ∷ 0 ∷ 0 ∷ 25 ∷ 0 ∷ 1 ∷ 0 ∷ 0 ∷ 0 ∷ 60 ∷ 0 ∷ 5 ∷ 2 ∷ 0 ∷ 2 ∷ 9 ∷ 9 ∷ 0 ∷ 0 ∷ 25 ∷ 0 ∷ 255 ∷ 0 ∷ 0 ∷ 0 ∷ 0 ∷ 0 ∷ 4 ∷ 2 ∷ 0 ∷ 3 ∷ 1 ∷ []
unfolding opening after
diffie_hellman = refl

-- 4098: the offer, whatever the keying verdict
pub server_assignment :
    (served 1200 nonce false [] 512 (good 4098)).outcome.reply
    ≡ 18 ∷ 52 ∷ 128 ∷ 0 ∷ 0 ∷ 1 ∷ 0 ∷ 1 ∷ 0 ∷ 0 ∷ 0 ∷ 1 ∷ 0 ∷ 0 ∷ 249 ∷ 0 ∷ 255 ∷ 1 ∷ 50 ∷ 1 ∷ 97 ∷ 7 ∷ 101 ∷ 120 ∷ 97 ∷ 109 ∷ 112 ∷ 108 ∷ 101 ∷ 0 ∷ 0 ∷ 249 ∷ 0 ∷ 255 ∷ 0 ∷ 0 ∷ 0 ∷ 0 ∷ 0 ∷ 59 ∷ 11 ∷ 104 ∷ 109 ∷ 97 ∷ 99 ∷ 45 ∷ 115 ∷ 104 ∷ 97 ∷ 50 ∷ 53 ∷ 54 ∷ 0 ∷ 0 ∷ 0 ∷ 4 ∷ 176 ∷ 0 ∷ 0 ∷ 7 ∷ 8 ∷ 16 ∷ 2 ∷ 0 ∷ 0 ∷ 0 ∷ 4 ∷ 1 ∷ 2 ∷ 3 ∷ 4 ∷ 0 ∷ 26 ∷ 1 ∷ 49 ∷ 1 ∷ 97 ∷ 7 ∷ 101 ∷ 120 ∷ 97 ∷ 109 ∷ 112 ∷ 108 ∷ 101 ∷ 0 ∷ 11 ∷ 104 ∷ 109 ∷ 97 ∷ 99 ∷ 45 ∷ 115 ∷ 104 ∷ 97 ∷ 50 ∷ 53 ∷ 54 ∷ 0 ∷ 0 ∷ 0 ∷ 25 ∷ 0 ∷ 255 ∷ 0 ∷ 0 ∷ 0 ∷ 0 ∷ 0 ∷ 4 ∷ 2 ∷ 0 ∷ 3 ∷ 1 ∷ []
unfolding opening after
server_assignment = refl

-- 4099: the request's key data, whatever is offered and lent
pub resolver_assignment :
    (served 1200 nonce true server 512 (good 4099)).outcome.reply
    ≡ 18 ∷ 52 ∷ 128 ∷ 0 ∷ 0 ∷ 1 ∷ 0 ∷ 1 ∷ 0 ∷ 0 ∷ 0 ∷ 1 ∷ 0 ∷ 0 ∷ 249 ∷ 0 ∷ 255 ∷ 1 ∷ 50 ∷ 1 ∷ 97 ∷ 7 ∷ 101 ∷ 120 ∷ 97 ∷ 109 ∷ 112 ∷ 108 ∷ 101 ∷ 0 ∷ 0 ∷ 249 ∷ 0 ∷ 255 ∷ 0 ∷ 0 ∷ 0 ∷ 0 ∷ 0 ∷ 57 ∷ 11 ∷ 104 ∷ 109 ∷ 97 ∷ 99 ∷ 45 ∷ 115 ∷ 104 ∷ 97 ∷ 50 ∷ 53 ∷ 54 ∷ 0 ∷ 0 ∷ 0 ∷ 4 ∷ 176 ∷ 0 ∷ 0 ∷ 7 ∷ 8 ∷ 16 ∷ 3 ∷ 0 ∷ 0 ∷ 0 ∷ 2 ∷ 7 ∷ 8 ∷ 0 ∷ 26 ∷ 1 ∷ 49 ∷ 1 ∷ 97 ∷ 7 ∷ 101 ∷ 120 ∷ 97 ∷ 109 ∷ 112 ∷ 108 ∷ 101 ∷ 0 ∷ 11 ∷ 104 ∷ 109 ∷ 97 ∷ 99 ∷ 45 ∷ 115 ∷ 104 ∷ 97 ∷ 50 ∷ 53 ∷ 54 ∷ 0 ∷ 0 ∷ 0 ∷ 25 ∷ 0 ∷ 255 ∷ 0 ∷ 0 ∷ 0 ∷ 0 ∷ 0 ∷ 4 ∷ 2 ∷ 0 ∷ 3 ∷ 1 ∷ []
unfolding opening after
resolver_assignment = refl

-- the pair is the same in all three, also from the partial time on (step 7), and whatever times the request asks for
abbrev pair_after : ℕ → ℕ → Pair
pair_after time mode =
    pair_at (served time nonce true server 512 (request time (tkey_data (algorithm_name Sha256) 5 900 mode 0 (7 ∷ 8 ∷ []) (old 1)) 1 key_record)).table 0

abbrev renewing : Key → Key → Pair
renewing adopted waiting = record { lifetime = 600; fresh = 400; next_serial = 3; keys = Renewing adopted waiting }

pub same_pair :
    (map (pair_after 1200) (4097 ∷ 4098 ∷ 4099 ∷ []) ≡ replicate 3 (renewing (key 1 1000 1200 1600) (key 2 1200 1600 1800)))
    × (map (pair_after 1450) (4097 ∷ 4098 ∷ 4099 ∷ []) ≡ replicate 3 (renewing (key 1 1000 1400 1600) (key 2 1450 1850 2050)))
unfolding opening after
same_pair = (refl, refl)

-- ── How a request ends, first that applies ──────────────────────────────────────────────────────────────────────────

-- The call's number, and the TKEY error of its reply.
abbrev end : Result → ℕ × Option ℕ
end r = (r.outcome.answer.number, reply_error (read_message r.outcome.reply))

-- Each request keeps one rule more than the one before, and breaks all that are left. The root names no algorithm.
abbrev ends : ℕ → List (ℕ × Option ℕ)
ends mode =
    -- OldName; the KEY count, none and two
    end (served 1200 [] false [] 512 (asking 1200 mode 9 (0 ∷ []) 1200 0 []))
    ∷ end (served 1200 [] false [] 512 (asking 1200 mode 1 (0 ∷ []) 1200 0 []))
    ∷ end (served 1200 [] false [] 512 (asking 1200 mode 1 (0 ∷ []) 1200 2 (key_record ++ key_record)))
    -- the keying verdict; the algorithm; the interval; the offer
    ∷ end (served 1200 [] false [] 512 (asking 1200 mode 1 (0 ∷ []) 1200 1 key_record))
    ∷ end (served 1200 [] true [] 512 (asking 1200 mode 1 (0 ∷ []) 1200 1 key_record))
    ∷ end (served 1200 [] true [] 512 (asking 1200 mode 1 (algorithm_name Sha256) 1200 1 key_record))
    ∷ end (served 1200 [] true [] 512 (good mode))
    -- the lent record; room; granted
    ∷ end (served 1200 nonce true [] 0 (good mode))
    ∷ end (served 1200 nonce true server 0 (good mode))
    ∷ end (served 1200 nonce true server 512 (good mode))
    ∷ []

-- The TKEY error of a reply; and a refusal.
abbrev fails : ℕ → ℕ × Option ℕ
fails error = (0, Some error)

abbrev refuses : ℕ → ℕ × Option ℕ
refuses number = (number, None)

-- 17 is BADKEY, 21 BADALG, 18 BADTIME; 19 is KEYREC, 8 ROOM. 4098 does not look at the keying verdict, 4099 not at the offer, and 4097 alone at the record.
pub ends_4097 : ends 4097 ≡ fails 17 ∷ fails 1 ∷ fails 1 ∷ fails 17 ∷ fails 21 ∷ fails 18 ∷ fails 2 ∷ refuses 19 ∷ refuses 8 ∷ fails 0 ∷ []
unfolding opening after
ends_4097 = refl

pub ends_4098 : ends 4098 ≡ fails 17 ∷ fails 1 ∷ fails 1 ∷ fails 21 ∷ fails 21 ∷ fails 18 ∷ fails 2 ∷ refuses 8 ∷ refuses 8 ∷ fails 0 ∷ []
unfolding opening after
ends_4098 = refl

pub ends_4099 : ends 4099 ≡ fails 17 ∷ fails 1 ∷ fails 1 ∷ fails 1 ∷ fails 21 ∷ fails 18 ∷ fails 0 ∷ refuses 8 ∷ refuses 8 ∷ fails 0 ∷ []
unfolding opening after
ends_4099 = refl

-- Where no serial is left it is 2 in every mode.
abbrev spent : Table
spent =
    record {
      clock = 1000;
      floor = 1;
      rows = record { suffix = suffix; pair = record { lifetime = 600; fresh = 400; next_serial = 0x1_0000_0000; keys = Adopted first } } ∷ [];
    }

pub no_serial : map (λ mode. end (asked spent 1200 nonce true server 512 (good mode))) (4097 ∷ 4098 ∷ 4099 ∷ []) ≡ replicate 3 (fails 2)
unfolding after
no_serial = refl

-- A 4099 whose request has no key data is granted: no paper names an error for it.
pub no_key_data : end (served 1200 [] true [] 512 (request 1200 (tkey_data (algorithm_name Sha256) 1200 1800 4099 0 [] (old 1)) 1 key_record)) ≡ fails 0
unfolding opening after
no_key_data = refl

-- An offer over 1024 octets is OFFER in every mode, also where it is not used.
pub offer_first : map (λ mode. end (served 1200 (replicate 1025 0) true server 512 (good mode))) (4097 ∷ 4098 ∷ 4099 ∷ []) ≡ replicate 3 (refuses 5)
unfolding opening after
offer_first = refl

-- Other data that is OldName alone is ill formed in every mode (step 6): RCODE 1 and no TKEY.
abbrev rcode : Result → Option ℕ
rcode r = slice_get r.outcome.reply 3

pub old_name_alone :
    map (λ mode. rcode (served 1200 nonce true server 512 (tkey_by 1 1 mode [] (key_name 1 suffix) 1200))) (4097 ∷ 4098 ∷ 4099 ∷ []) ≡ replicate 3 (Some 1)
unfolding opening after
old_name_alone = refl

-- ── What is lent ────────────────────────────────────────────────────────────────────────────────────────────────────

abbrev lending : List ℕ → ℕ
lending second = (served 1200 nonce true second 512 (good 4097)).outcome.answer.number

-- a record of another type, one that is cut, one with an octet behind it, two, one whose owner is compressed; the root may be the owner
pub lent_records :
    map lending
    (record_octets (0 ∷ []) 26 255 0 []
    ∷ (1 ∷ 115 ∷ 0 ∷ 0 ∷ 25 ∷ 0 ∷ 1 ∷ 0 ∷ 0 ∷ 0 ∷ 60 ∷ 0 ∷ 5 ∷ 2 ∷ 0 ∷ 2 ∷ 9 ∷ [])
    ∷ (server ++ (0 ∷ []))
    ∷ (server ++ server)
    ∷ (192 ∷ 12 ∷ 0 ∷ 25 ∷ 0 ∷ 1 ∷ 0 ∷ 0 ∷ 0 ∷ 60 ∷ 0 ∷ 0 ∷ [])
    ∷ key_record
    ∷ [])
    ≡ 19 ∷ 19 ∷ 19 ∷ 19 ∷ 19 ∷ 0 ∷ []
unfolding opening after
lent_records = refl

-- KEYREC moves the clock and nothing else.
pub keyrec : served 1200 nonce true [] 512 (good 4097) ≡ unchanged (with_clock (after (empty_table 1000) opening) 1200) KEYREC
unfolding opening after
keyrec = refl

-- The room counts the lent record: the reply's 132 octets, and one less.
pub exact_room : map (λ room. (served 1200 nonce true server room (good 4097)).outcome.answer.number) (132 ∷ 131 ∷ []) ≡ 0 ∷ 8 ∷ []
unfolding opening after
exact_room = refl

-- NOTQUERY comes before KEYREC: the same request with QR 1.
abbrev response : List ℕ
response =
    header_of 4660 32768 1 0 0 3
    ++ (question (0 ∷ []) 249 255
    ++ (record_octets (0 ∷ []) 249 255 0 (tkey_data (algorithm_name Sha256) 1200 1800 4097 0 (7 ∷ 8 ∷ []) (old 1)) ++ (key_record ++ tsig 1 1200)))

pub response_first : (served 1200 nonce true [] 512 response).outcome.answer.number ≡ 7
unfolding opening after
response_first = refl

-- Nothing but a 4097 that would be granted looks at the record: an octet that is none, lent to the other two schemes, to a 4097 that fails and to an ordinary
-- query; and to the adoption of the key that a renewal made.
abbrev junk : List ℕ
junk = 0 ∷ []

abbrev renewed : Table
renewed = (served 1200 nonce true server 512 (good 4097)).table

pub not_looked_at :
    (map (λ octets. end (served 1200 nonce true junk 512 octets)) (good 4098 ∷ good 4099 ∷ asking 1200 4097 1 (0 ∷ []) 1200 1 key_record ∷ ordinary 1 1200 ∷ [])
    ≡ fails 0 ∷ fails 0 ∷ fails 21 ∷ (0, None) ∷ [])
    × (end (asked renewed 1201 nonce true junk 512 (adoption_by 1 2 1201)) ≡ fails 0)
unfolding opening after
not_looked_at = (refl, refl)

-- ── In a batch ──────────────────────────────────────────────────────────────────────────────────────────────────────

-- "Each item of a batch brings its own": two requests, the nonce and the server's record, one behind another.
abbrev pack : List ℕ
pack = good 4097 ++ (good 4099 ++ (nonce ++ server))

abbrev before : ℕ
before = length (good 4097) + length (good 4099)

-- The first or the second of them, its keying verdict, and how much of the record is lent.
abbrev item : ℕ → ℕ → Bool → ℕ → BatchItem
item from size fits lent =
    record {
      time = 1200;
      good = true;
      message = record { from = from; size = size };
      offer = record { from = before; size = 4 };
      fits = fits;
      second = record { from = before + 4; size = lent };
    }

abbrev dh : Bool → ℕ → BatchItem
dh fits lent = item 0 (length (good 4097)) fits lent

abbrev ra : Bool → BatchItem
ra fits = item (length (good 4097)) (length (good 4099)) fits 0

-- A 4097 that fits; one that does not; one whose record is cut; a 4099 that fits; one that does not.
pub in_a_batch :
    map (λ (o : Outcome). (o.answer.number, reply_error (read_message o.reply)))
    (batch_on (after (empty_table 1000) opening) pack (dh true (length server) ∷ dh false (length server) ∷ dh true 4 ∷ ra true ∷ ra false ∷ []) 999).outcomes
    ≡ fails 0 ∷ fails 17 ∷ refuses 19 ∷ fails 0 ∷ fails 1 ∷ []
unfolding opening after BATCH inside batch_ok given_by item_call refused_whole in_turn batch_on
in_a_batch = refl

-- The call that such an item is.
pub its_call :
    calls_of true (batch pack (dh true (length server) ∷ []) 300)
    ≡ message (record { now = 1200; good = true; offer = nonce; fits = true; second = server }) 300 (good 4097) ∷ []
unfolding after BATCH inside batch_ok given_by item_call calls_of
its_call = refl
