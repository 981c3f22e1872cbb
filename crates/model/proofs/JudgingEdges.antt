-- Edges of judging and of replies, computed by antt: each step alone and before the next, each error of a renewal, adoption and deletion, keys of another pair,
-- and what a reply repeats and replaces. Assumes nothing.
use Prim.Native.Nat.{ℕ, zero, suc, ◌+◌}
use mathlib.Core.Path.{◌≡◌, refl}
use mathlib.Core.Bool.{Bool, true, false}
use Rattle.std.specs.Prelude.{Option, None, Some}
use mathlib.Core.List.{List, [], ◌∷◌, ◌++◌}
use lib.IntN.{pos}
use Rattle.model.specs.declared.Algorithm.{Algorithm}
use Rattle.model.specs.declared.Algorithm.TheVariants.{Sha256, Sha384, Sha512}
use Rattle.model.specs.declared.Keys.{Keys}
use Rattle.model.specs.declared.Keys.TheVariants.{Empty, Adopted, Renewing}
use Rattle.model.specs.Names.{key_name, algorithm_name}
use Rattle.model.specs.Tables.{Table}
use Rattle.model.specs.Judging.{in_time}
use Rattle.model.specs.Replies.{record_octets, tkey_data}
use Rattle.model.specs.Calls.{Result, message}
use Rattle.model.specs.Runs.{call, operated}
use Rattle.model.proofs.Requests.{unkeyed, suffix, other_suffix, header_of, header, question, root_query, stamp_for, stamp, tsig, ordinary, old, key_record, renewal_by, tkey_by}
use Rattle.model.proofs.Running.{after}
use Rattle.model.proofs.Day.{Seen, seen, key, first, passes}
use Rattle.model.proofs.Edges.{one, two, enrolled, renewing}

-- ── What is looked at ───────────────────────────────────────────────────────────────────────────────────────────────

-- A message at a time with this verdict, an offer of four octets, and room.
abbrev sent : Table → ℕ → Bool → List ℕ → Result
sent t time good octets = operated t (call (message (unkeyed time good (1 ∷ 2 ∷ 3 ∷ 4 ∷ [])) 512 octets))

abbrev shown : Table → ℕ → Bool → List ℕ → Seen
shown t time good octets = seen (sent t time good octets)

-- A header and the root's question, 17 octets, with an RCODE; of no pair.
abbrev told : ℕ → ℕ → ℕ → ℕ → Keys → Seen
told rcode error pair serial keys =
    record { number = 0; length = 17; rcode = Some rcode; error = error; skew = pos 0; pair = pair; serial = serial; tkey = None; keys = keys }

-- A query signed with this name and algorithm, at `time` with this fudge and a MAC of `size` octets.
abbrev query : List ℕ → List ℕ → ℕ → ℕ → ℕ → List ℕ
query name algorithm time fudge size = header 0 1 ++ (root_query ++ record_octets name 250 255 0 (algorithm ++ stamp_for time fudge size 0))

-- A TKEY request for the root, signed by key 1 at `time`, with these many records of each section and these.
abbrev request : ℕ → ℕ → ℕ → List ℕ → ℕ → List ℕ
request answers authorities additionals records time =
    header_of 4660 0 1 answers authorities (additionals + 1) ++ (question (0 ∷ []) 249 255 ++ (records ++ tsig 1 time))

-- ── Steps 1 to 5 ────────────────────────────────────────────────────────────────────────────────────────────────────

-- 1. "A TSIG that is not the very last record, in the additional section, or is ill formed: RCODE 1." 2. "No TSIG: a TKEY request gets RCODE 5; an ordinary
-- message is handed up as unsigned, no reply." The verdict is "ignored when there is no TSIG": here it is bad.
pub unsigned_ones :
    (shown enrolled 1000 false (header 1 0 ++ (root_query ++ tsig 1 1000)) ≡ told 1 0 0 0 (Adopted first))
    × (shown enrolled 1000 false (header 0 0 ++ question (0 ∷ []) 249 255) ≡ told 5 0 0 0 (Adopted first))
    × (shown enrolled 1000 false (header 0 0 ++ root_query)
    ≡ record { number = 0; length = 0; rcode = None; error = 0; skew = pos 0; pair = 0; serial = 0; tkey = None; keys = Adopted first })
unfolding seen after
unsigned_ones = (refl, refl, refl)

-- 3. "TSIG name and algorithm are not an adopted key's": a serial that was never made, another algorithm, 01.a.example., a pair with no key, no such pair. MAC
-- and verdict are wrong too.
abbrev bad_key : Keys → Seen
bad_key keys = told 9 17 0 0 keys

pub unknown_keys :
    (shown enrolled 1000 false (query (key_name 77 suffix) (algorithm_name Sha256) 1000 300 0) ≡ bad_key (Adopted first))
    × (shown enrolled 1000 false (query (key_name 1 suffix) (algorithm_name Sha512) 1000 300 0) ≡ bad_key (Adopted first))
    × (shown enrolled 1000 false (query (2 ∷ 48 ∷ 49 ∷ suffix) (algorithm_name Sha256) 1000 300 0) ≡ bad_key (Adopted first))
    × (shown (one 1000 2 Empty) 1000 false (query (key_name 1 suffix) (algorithm_name Sha256) 1000 300 0) ≡ bad_key Empty)
    × (shown enrolled 1000 false (query (key_name 1 other_suffix) (algorithm_name Sha256) 1000 300 0) ≡ bad_key (Adopted first))
unfolding seen after
unknown_keys = (refl, refl, refl, refl, refl)

-- "or time not in inception ≤ time < expiry"
pub in_time_lem : (in_time first 999 ≡ false) × (in_time first 1000 ≡ true) × (in_time first 1599 ≡ true) × (in_time first 1600 ≡ false)
unfolding after
in_time_lem = (refl, refl, refl, refl)

-- "Names compare without regard to the case of A to Z": 1.A.EXAMPLE. and HMAC-SHA256.
abbrev capitals : List ℕ
capitals = 1 ∷ 49 ∷ 1 ∷ 65 ∷ 7 ∷ 69 ∷ 88 ∷ 65 ∷ 77 ∷ 80 ∷ 76 ∷ 69 ∷ 0 ∷ []

abbrev capital_hmac : List ℕ
capital_hmac = 11 ∷ 72 ∷ 77 ∷ 65 ∷ 67 ∷ 45 ∷ 83 ∷ 72 ∷ 65 ∷ 50 ∷ 53 ∷ 54 ∷ 0 ∷ []

pub capital_key : shown enrolled 1000 true (query capitals capital_hmac 1000 300 32) ≡ passes (pos 0) 1 (Adopted first)
unfolding seen after
capital_key = refl

-- 4. "MAC longer than the algorithm's output (32, 48 or 64 octets) or shorter than half of it: RCODE 1. Verdict bad: 9, BADSIG." Of hmac-sha384 and
-- hmac-sha512; `Examples` has hmac-sha256.
abbrev mac : Algorithm → ℕ → Bool → Seen
mac g size good =
    shown (one 1000 2 (Adopted record { serial = 1; algorithm = g; inception = 1000; partial = 1400; expiry = 1600 })) 1000 good
    (query (key_name 1 suffix) (algorithm_name g) 1000 300 size)

abbrev held : Algorithm → Keys
held g = Adopted record { serial = 1; algorithm = g; inception = 1000; partial = 1400; expiry = 1600 }

pub macs_384 :
    (mac Sha384 23 true ≡ told 1 0 1 1 (held Sha384))
    × (mac Sha384 24 true ≡ passes (pos 0) 1 (held Sha384))
    × (mac Sha384 48 true ≡ passes (pos 0) 1 (held Sha384))
    × (mac Sha384 49 true ≡ told 1 0 1 1 (held Sha384))
    × (mac Sha384 48 false ≡ told 9 16 1 1 (held Sha384))
unfolding seen after
macs_384 = (refl, refl, refl, refl, refl)

pub macs_512 :
    (mac Sha512 31 true ≡ told 1 0 1 1 (held Sha512))
    × (mac Sha512 32 true ≡ passes (pos 0) 1 (held Sha512))
    × (mac Sha512 64 true ≡ passes (pos 0) 1 (held Sha512))
    × (mac Sha512 65 true ≡ told 1 0 1 1 (held Sha512))
    × (mac Sha512 64 false ≡ told 9 16 1 1 (held Sha512))
unfolding seen after
macs_512 = (refl, refl, refl, refl, refl)

-- 5. "Time signed and time differ by more than fudge: 9, BADTIME." Signed ahead of now, with a fudge of 300, of 0 and of 65,535.
abbrev signed_at : ℕ → ℕ → Seen
signed_at time fudge = shown enrolled 1000 true (query (key_name 1 suffix) (algorithm_name Sha256) time fudge 32)

pub ahead :
    (signed_at 1300 300 ≡ passes (pos 300) 1 (Adopted first))
    × (signed_at 1301 300 ≡ told 9 18 1 1 (Adopted first))
    × (signed_at 1000 0 ≡ passes (pos 0) 1 (Adopted first))
    × (signed_at 1001 0 ≡ told 9 18 1 1 (Adopted first))
    × (signed_at 66535 65535 ≡ passes (pos 65535) 1 (Adopted first))
    × (signed_at 66536 65535 ≡ told 9 18 1 1 (Adopted first))
unfolding seen after
ahead = (refl, refl, refl, refl, refl, refl)

-- ── Steps 6 to 9, and each step before the next ─────────────────────────────────────────────────────────────────────

-- A TKEY that asks to delete key n, of any algorithm.
abbrev deletion : ℕ → Algorithm → List ℕ
deletion n g = record_octets (key_name n suffix) 249 255 0 (tkey_data (algorithm_name g) 0 0 5 0 [] [])

-- 6. "A TKEY request without exactly one TKEY record in the whole message, in the additional section and well formed: RCODE 1." None; two; in the answer and in
-- the authority section; one more in the answer section.
pub not_one_tkey :
    (shown enrolled 1000 true (request 0 0 0 [] 1000) ≡ told 1 0 1 1 (Adopted first))
    × (shown enrolled 1000 true (request 0 0 2 (deletion 1 Sha256 ++ deletion 1 Sha256) 1000) ≡ told 1 0 1 1 (Adopted first))
    × (shown enrolled 1000 true (request 1 0 0 (deletion 1 Sha256) 1000) ≡ told 1 0 1 1 (Adopted first))
    × (shown enrolled 1000 true (request 0 1 0 (deletion 1 Sha256) 1000) ≡ told 1 0 1 1 (Adopted first))
    × (shown enrolled 1000 true (request 1 0 1 (deletion 1 Sha256 ++ deletion 1 Sha256) 1000) ≡ told 1 0 1 1 (Adopted first))
unfolding seen after
not_one_tkey = (refl, refl, refl, refl, refl)

-- 7. "Time ≥ partial, and not a TKEY request of mode 4098 or 4100: 9, PartialRevoke." A deletion is such a message. (Renewal and adoption: the day.)
pub revoked_deletion : shown enrolled 1400 true (request 0 0 1 (deletion 1 Sha256) 1400) ≡ told 9 3841 1 1 (Adopted first)
unfolding seen after
revoked_deletion = refl

-- The RCODE and TKEY error of a reply, and the keys of pair 1 afterwards.
abbrev ended : Seen → Option ℕ × Option ℕ × Keys
ended s = (s.rcode, s.tkey, s.keys)

-- 9. "A mode other than 5, 4098 and 4100: TKEY error BADMODE"; of 4097 and 4099 it is not (02, CR 10).
abbrev of_mode : ℕ → Option ℕ × Option ℕ × Keys
of_mode mode = ended (shown enrolled 1000 true (tkey_by 1 1 mode [] [] 1000))

abbrev bad_mode : Option ℕ × Option ℕ × Keys
bad_mode = (Some 0, Some 19, Adopted first)

pub bad_modes : (of_mode 0 ≡ bad_mode) × (of_mode 4 ≡ bad_mode) × (of_mode 4096 ≡ bad_mode) × (of_mode 4101 ≡ bad_mode) × (of_mode 65535 ≡ bad_mode)
unfolding seen after
bad_modes = (refl, refl, refl, refl, refl)

-- "First that applies": 4 before 5, the MAC and the verdict; 5 before 6; 5 before 7; 6 before 7; 7 before 9.
pub steps_in_order :
    (shown enrolled 1000 false (query (key_name 1 suffix) (algorithm_name Sha256) 5000 300 15) ≡ told 1 0 1 1 (Adopted first))
    × (shown enrolled 1000 false (query (key_name 1 suffix) (algorithm_name Sha256) 5000 300 32) ≡ told 9 16 1 1 (Adopted first))
    × (shown enrolled 1000 true (request 0 0 0 [] 5000) ≡ told 9 18 1 1 (Adopted first))
    × (shown enrolled 1400 true (ordinary 1 5000) ≡ told 9 18 1 1 (Adopted first))
    × (shown enrolled 1400 true (request 0 0 0 [] 1400) ≡ told 1 0 1 1 (Adopted first))
    × (shown enrolled 1400 true (tkey_by 1 1 1 [] [] 1400)
    ≡ record { number = 0; length = 29; rcode = Some 9; error = 3841; skew = pos 0; pair = 1; serial = 1; tkey = None; keys = Adopted first })
unfolding seen after
steps_in_order = (refl, refl, refl, refl, refl, refl)

-- ── Renewal ─────────────────────────────────────────────────────────────────────────────────────────────────────────

abbrev key_records : ℕ → List ℕ
key_records zero = []
key_records (suc n) = key_record ++ key_records n

-- A renewal by key 1 at 1200: the old key that it names, how many KEY records, the algorithm, and the expiration, inception being 1200. On the day's table with
-- this next serial and this offer: its TKEY error, and the keys.
abbrev renewal : List ℕ → ℕ → List ℕ → ℕ → List ℕ
renewal old keys algorithm expiration =
    request 0 0 (suc keys) (record_octets (0 ∷ []) 249 255 0 (tkey_data algorithm 1200 expiration 4098 0 [] old) ++ key_records keys) 1200

abbrev renewed : ℕ → List ℕ → List ℕ → Option ℕ × Option ℕ × Keys
renewed next offer octets = ended (seen (operated (one 1000 next (Adopted first)) (call (message (unkeyed 1200 true offer) 512 octets))))

abbrev failed : ℕ → Option ℕ × Option ℕ × Keys
failed error = (Some 0, Some error, Adopted first)

abbrev unknown_name : List ℕ
unknown_name = 1 ∷ 120 ∷ 0 ∷ []

-- "OldName and OldAlgorithm must be the signing key's, else BADKEY; exactly one KEY record (type 25) in the additional section, else 1; a known algorithm, else
-- BADALG"; a good interval (02, CR 5), "else BADTIME; a serial left and an offer that is not empty, else 2". Each alone: OldName, OldAlgorithm; no KEY, two.
pub renewal_errors :
    (renewed 2 (1 ∷ []) (renewal (key_name 2 suffix ++ algorithm_name Sha256) 1 (algorithm_name Sha256) 1800) ≡ failed 17)
    × (renewed 2 (1 ∷ []) (renewal (key_name 1 suffix ++ algorithm_name Sha512) 1 (algorithm_name Sha256) 1800) ≡ failed 17)
    × (renewed 2 (1 ∷ []) (renewal (old 1) 0 (algorithm_name Sha256) 1800) ≡ failed 1)
    × (renewed 2 (1 ∷ []) (renewal (old 1) 2 (algorithm_name Sha256) 1800) ≡ failed 1)
    × (renewed 2 (1 ∷ []) (renewal (old 1) 1 unknown_name 1800) ≡ failed 21)
    × (renewed 2 (1 ∷ []) (renewal (old 1) 1 (algorithm_name Sha256) 1200) ≡ failed 18)
    × (renewed 0x1_0000_0000 (1 ∷ []) (renewal (old 1) 1 (algorithm_name Sha256) 1800) ≡ failed 2)
    × (renewed 2 [] (renewal (old 1) 1 (algorithm_name Sha256) 1800) ≡ failed 2)
unfolding seen after
renewal_errors = (refl, refl, refl, refl, refl, refl, refl, refl)

-- each with all that follow it
pub renewal_order :
    (renewed 0x1_0000_0000 [] (renewal (old 2) 0 unknown_name 1200) ≡ failed 17)
    × (renewed 0x1_0000_0000 [] (renewal (old 1) 0 unknown_name 1200) ≡ failed 1)
    × (renewed 0x1_0000_0000 [] (renewal (old 1) 1 unknown_name 1200) ≡ failed 21)
    × (renewed 0x1_0000_0000 [] (renewal (old 1) 1 (algorithm_name Sha256) 1200) ≡ failed 18)
    × (renewed 0x1_0000_0000 [] (renewal (old 1) 1 (algorithm_name Sha256) 1800) ≡ failed 2)
unfolding seen after
renewal_order = (refl, refl, refl, refl, refl)

-- "Then a waiting key is made with the next serial, the requested algorithm, ..": the last serial, an offer of one octet, and each algorithm, in either case.
abbrev granted : ℕ → Algorithm → Option ℕ × Option ℕ × Keys
granted serial g =
    (Some 0, Some 0, Renewing (key 1 1000 1200 1600) record { serial = serial; algorithm = g; inception = 1200; partial = 1600; expiry = 1800 })

pub renewals :
    (renewed 0xffff_ffff (1 ∷ []) (renewal (old 1) 1 (algorithm_name Sha384) 1800) ≡ granted 0xffff_ffff Sha384)
    × (renewed 2 (1 ∷ []) (renewal (old 1) 1 (algorithm_name Sha512) 1800) ≡ granted 2 Sha512)
    × (renewed 2 (1 ∷ []) (renewal (capitals ++ capital_hmac) 1 capital_hmac 1800) ≡ granted 2 Sha256)
unfolding seen after
renewals = (refl, refl, refl)

-- KEY records of other sections do not count: one in the authority section alone, and one more there.
abbrev wanted : List ℕ
wanted = record_octets (0 ∷ []) 249 255 0 (tkey_data (algorithm_name Sha256) 1200 1800 4098 0 [] (old 1))

pub keys_elsewhere :
    (renewed 2 (1 ∷ []) (request 0 1 1 (key_record ++ wanted) 1200) ≡ failed 1)
    × (renewed 2 (1 ∷ []) (request 0 1 2 (key_record ++ (wanted ++ key_record)) 1200) ≡ granted 2 Sha256)
unfolding seen after
keys_elsewhere = (refl, refl)

-- ".. replacing any waiting key; the signing key's partial time becomes the earlier of itself and now": before its partial time and after it. The waiting key
-- is no old key.
pub renewals_again :
    (ended (shown (one 1200 3 renewing) 1300 true (renewal_by 1 1300)) ≡ (Some 0, Some 0, Renewing (key 1 1000 1300 1600) (key 3 1300 1700 1900)))
    × (ended (shown (one 1200 3 renewing) 1500 true (renewal_by 1 1500)) ≡ (Some 0, Some 0, Renewing first (key 3 1500 1900 2100)))
    × (ended (shown (one 1200 3 renewing) 1200 true (renewal (old 2) 1 (algorithm_name Sha256) 1800)) ≡ (Some 0, Some 17, renewing))
unfolding seen after
renewals_again = (refl, refl, refl)

-- ── Adoption and deletion ───────────────────────────────────────────────────────────────────────────────────────────

-- At 1300, signed by key 1, with key 2 waiting: an adoption of this name and algorithm, which names this old key.
abbrev adopting : List ℕ → Algorithm → List ℕ → Option ℕ × Option ℕ × Keys
adopting name g old =
    ended (shown (one 1200 3 renewing) 1300 true (request 0 0 1 (record_octets name 249 255 0 (tkey_data (algorithm_name g) 0 0 4100 0 [] old)) 1300))

-- "NAME and Algorithm are the adopted key's: no error, no change": the waiting key stays, whatever the old key. "Not the waiting key's either: BADNAME":
-- another name, whatever the old key, or another algorithm. "OldName or OldAlgorithm not the signing key's: BADKEY. Else the waiting key becomes adopted".
pub adoptions :
    (adopting (key_name 1 suffix) Sha256 (old 1) ≡ (Some 0, Some 0, renewing))
    × (adopting (key_name 1 suffix) Sha256 (old 9) ≡ (Some 0, Some 0, renewing))
    × (adopting (key_name 9 suffix) Sha256 (old 9) ≡ (Some 0, Some 20, renewing))
    × (adopting (key_name 1 suffix) Sha384 (old 1) ≡ (Some 0, Some 20, renewing))
    × (adopting (key_name 2 suffix) Sha384 (old 1) ≡ (Some 0, Some 20, renewing))
    × (adopting (key_name 2 suffix) Sha256 (old 2) ≡ (Some 0, Some 17, renewing))
    × (adopting (key_name 2 suffix) Sha256 (key_name 1 suffix ++ algorithm_name Sha384) ≡ (Some 0, Some 17, renewing))
    × (adopting (key_name 2 suffix) Sha256 (old 1) ≡ (Some 0, Some 0, Adopted (key 2 1200 1600 1800)))
unfolding seen after
adoptions = (refl, refl, refl, refl, refl, refl, refl, refl)

-- "NAME is the signing key's: the pair has no key. The waiting key's: only that goes. Else BADNAME." The algorithm is not compared.
abbrev deleting : ℕ → Algorithm → Option ℕ × Option ℕ × Keys
deleting n g = ended (shown (one 1200 3 renewing) 1300 true (request 0 0 1 (deletion n g) 1300))

pub deletions :
    (deleting 1 Sha256 ≡ (Some 0, Some 0, Empty))
    × (deleting 1 Sha384 ≡ (Some 0, Some 0, Empty))
    × (deleting 2 Sha256 ≡ (Some 0, Some 0, Adopted first))
    × (deleting 2 Sha384 ≡ (Some 0, Some 0, Adopted first))
    × (deleting 9 Sha256 ≡ (Some 0, Some 20, renewing))
unfolding seen after
deletions = (refl, refl, refl, refl, refl)

-- what the rest of the table is afterwards
pub tables_after :
    ((sent (one 1200 3 renewing) 1300 true (request 0 0 1 (deletion 1 Sha256) 1300)).table ≡ one 1300 3 Empty)
    × ((sent (one 1200 3 renewing) 1300 true (request 0 0 1 (deletion 2 Sha256) 1300)).table ≡ one 1300 3 (Adopted first))
    × ((sent (one 1200 3 renewing) 1300 true (tkey_by 1 2 4100 [] (old 1) 1300)).table ≡ one 1300 3 (Adopted (key 2 1200 1600 1800)))
    × ((sent (one 1200 3 renewing) 1300 true (renewal_by 1 1300)).table ≡ one 1300 4 (Renewing (key 1 1000 1300 1600) (key 3 1300 1700 1900)))
unfolding after
tables_after = (refl, refl, refl, refl)

-- ── Another pair's keys ─────────────────────────────────────────────────────────────────────────────────────────────

-- "Keys of another pair are treated as keys that do not exist": a.example. asks for the keys 1 and 2 of b.example., which are there.
abbrev crossing : List ℕ → Option ℕ × Option ℕ × Keys
crossing octets = ended (shown (two 1200 renewing renewing) 1300 true octets)

abbrev tkey_for : ℕ → List ℕ → List ℕ → List ℕ
tkey_for mode name old = request 0 0 1 (record_octets name 249 255 0 (tkey_data (algorithm_name Sha256) 0 0 mode 0 [] old)) 1300

pub other_pairs :
    (crossing (tkey_for 5 (key_name 1 other_suffix) []) ≡ (Some 0, Some 20, renewing))
    × (crossing (tkey_for 5 (key_name 2 other_suffix) []) ≡ (Some 0, Some 20, renewing))
    × (crossing (tkey_for 4100 (key_name 2 other_suffix) (old 1)) ≡ (Some 0, Some 20, renewing))
    × (crossing (tkey_for 4100 (key_name 2 suffix) (key_name 1 other_suffix ++ algorithm_name Sha256)) ≡ (Some 0, Some 17, renewing))
unfolding seen after
other_pairs = (refl, refl, refl, refl)

-- A message signed by key 1 of b.example. is passed up with pair 2.
pub second_pair :
    (sent (two 1200 renewing (Adopted (key 2 1200 1600 1800))) 1200 true (query (key_name 2 other_suffix) (algorithm_name Sha256) 1200 300 32)).outcome.answer
    ≡ record { number = 0; length = 0; error = 0; skew = pos 0; pair = 2; serial = 2; place = 0 }
unfolding after
second_pair = refl

-- ── Replies (01, "The reply") ───────────────────────────────────────────────────────────────────────────────────────

-- "ID, opcode and RD as asked, QR 1, other flags 0, counts as written; question octets copied." ID 258, opcode 15, every other flag 1, RCODE 14; two questions,
-- the second's name a pointer.
pub heading :
    (sent enrolled 1400 true (header_of 258 0x7ffe 2 0 0 1 ++ (question suffix 1 1 ++ ((192 ∷ 12 ∷ 0 ∷ 2 ∷ 0 ∷ 1 ∷ []) ++ tsig 1 1400)))).outcome.reply
    ≡ 1 ∷ 2 ∷ 249 ∷ 9 ∷ 0 ∷ 2 ∷ 0 ∷ 0 ∷ 0 ∷ 0 ∷ 0 ∷ 0
    ∷ 1 ∷ 97 ∷ 7 ∷ 101 ∷ 120 ∷ 97 ∷ 109 ∷ 112 ∷ 108 ∷ 101 ∷ 0 ∷ 0 ∷ 1 ∷ 0 ∷ 1
    ∷ 192 ∷ 12 ∷ 0 ∷ 2 ∷ 0 ∷ 1 ∷ []
unfolding after
heading = refl

-- "One answer record: the request's with class 255, TTL 0, names written out and its error number." A deletion whose TKEY has class 1, TTL 7, error 5, and an
-- owner name with a pointer to the question's.
pub repeated :
    (sent enrolled 1000 true
    (header 0 2
    ++ (question suffix 249 255
    ++ (record_octets (1 ∷ 49 ∷ 192 ∷ 12 ∷ []) 249 1 7 (tkey_data (algorithm_name Sha256) 1 2 5 5 (7 ∷ []) (9 ∷ 9 ∷ [])) ++ tsig 1 1000)))).outcome.reply
    ≡ 18 ∷ 52 ∷ 128 ∷ 0 ∷ 0 ∷ 1 ∷ 0 ∷ 1 ∷ 0 ∷ 0 ∷ 0 ∷ 0
    ∷ 1 ∷ 97 ∷ 7 ∷ 101 ∷ 120 ∷ 97 ∷ 109 ∷ 112 ∷ 108 ∷ 101 ∷ 0 ∷ 0 ∷ 249 ∷ 0 ∷ 255
    ∷ 1 ∷ 49 ∷ 1 ∷ 97 ∷ 7 ∷ 101 ∷ 120 ∷ 97 ∷ 109 ∷ 112 ∷ 108 ∷ 101 ∷ 0 ∷ 0 ∷ 249 ∷ 0 ∷ 255 ∷ 0 ∷ 0 ∷ 0 ∷ 0 ∷ 0 ∷ 32
    ∷ 11 ∷ 104 ∷ 109 ∷ 97 ∷ 99 ∷ 45 ∷ 115 ∷ 104 ∷ 97 ∷ 50 ∷ 53 ∷ 54 ∷ 0 ∷ 0 ∷ 0 ∷ 0 ∷ 1 ∷ 0 ∷ 0 ∷ 0 ∷ 2 ∷ 0 ∷ 5 ∷ 0 ∷ 0 ∷ 0 ∷ 1 ∷ 7 ∷ 0 ∷ 2 ∷ 9 ∷ 9 ∷ []
unfolding after
repeated = refl

-- The waiting key deleted: the request repeated too, error 0.
pub withdrawn :
    (sent (one 1200 3 renewing) 1300 true (request 0 0 1 (deletion 2 Sha256) 1300)).outcome.reply
    ≡ 18 ∷ 52 ∷ 128 ∷ 0 ∷ 0 ∷ 1 ∷ 0 ∷ 1 ∷ 0 ∷ 0 ∷ 0 ∷ 0 ∷ 0 ∷ 0 ∷ 249 ∷ 0 ∷ 255
    ∷ 1 ∷ 50 ∷ 1 ∷ 97 ∷ 7 ∷ 101 ∷ 120 ∷ 97 ∷ 109 ∷ 112 ∷ 108 ∷ 101 ∷ 0 ∷ 0 ∷ 249 ∷ 0 ∷ 255 ∷ 0 ∷ 0 ∷ 0 ∷ 0 ∷ 0 ∷ 29
    ∷ 11 ∷ 104 ∷ 109 ∷ 97 ∷ 99 ∷ 45 ∷ 115 ∷ 104 ∷ 97 ∷ 50 ∷ 53 ∷ 54 ∷ 0 ∷ 0 ∷ 0 ∷ 0 ∷ 0 ∷ 0 ∷ 0 ∷ 0 ∷ 0 ∷ 0 ∷ 5 ∷ 0 ∷ 0 ∷ 0 ∷ 0 ∷ 0 ∷ 0 ∷ []
unfolding after
withdrawn = refl

-- "A granted renewal replaces NAME (suffix octets as enrolled), inception and expiration (mod 2^32) and key data, and echoes the KEY record, owner name written
-- out". At 2^32 + 2^31 + 5; the request's NAME is 9.B.EXAMPLE., its key data 9 9, its old key in capitals, and its KEY record has class 1, TTL 5 and a pointer
-- for its owner.
abbrev late_table : Table
late_table = one 6442450944 2 (Adopted (key 1 6442450944 6442451344 6442451544))

abbrev late_renewal : List ℕ
late_renewal =
    header 0 3
    ++ (question (1 ∷ 57 ∷ 1 ∷ 66 ∷ 7 ∷ 69 ∷ 88 ∷ 65 ∷ 77 ∷ 80 ∷ 76 ∷ 69 ∷ 0 ∷ []) 249 255
    ++ (record_octets (192 ∷ 12 ∷ []) 249 1 7 (tkey_data (algorithm_name Sha256) 1 2 4098 5 (9 ∷ 9 ∷ []) (capitals ++ capital_hmac))
    ++ (record_octets (192 ∷ 14 ∷ []) 25 1 5 (2 ∷ 0 ∷ 3 ∷ 1 ∷ [])
    ++ record_octets capitals 250 255 0 (capital_hmac ++ stamp 6442450949))))

pub late_renewal_lem :
    (sent late_table 6442450949 true late_renewal).outcome.reply
    ≡ 18 ∷ 52 ∷ 128 ∷ 0 ∷ 0 ∷ 1 ∷ 0 ∷ 1 ∷ 0 ∷ 0 ∷ 0 ∷ 1
    ∷ 1 ∷ 57 ∷ 1 ∷ 66 ∷ 7 ∷ 69 ∷ 88 ∷ 65 ∷ 77 ∷ 80 ∷ 76 ∷ 69 ∷ 0 ∷ 0 ∷ 249 ∷ 0 ∷ 255
    ∷ 1 ∷ 50 ∷ 1 ∷ 97 ∷ 7 ∷ 101 ∷ 120 ∷ 97 ∷ 109 ∷ 112 ∷ 108 ∷ 101 ∷ 0 ∷ 0 ∷ 249 ∷ 0 ∷ 255 ∷ 0 ∷ 0 ∷ 0 ∷ 0 ∷ 0 ∷ 59
    ∷ 11 ∷ 104 ∷ 109 ∷ 97 ∷ 99 ∷ 45 ∷ 115 ∷ 104 ∷ 97 ∷ 50 ∷ 53 ∷ 54 ∷ 0 ∷ 128 ∷ 0 ∷ 0 ∷ 5 ∷ 128 ∷ 0 ∷ 2 ∷ 93 ∷ 16 ∷ 2 ∷ 0 ∷ 0 ∷ 0 ∷ 4 ∷ 1 ∷ 2 ∷ 3 ∷ 4
    ∷ 0 ∷ 26 ∷ 1 ∷ 49 ∷ 1 ∷ 65 ∷ 7 ∷ 69 ∷ 88 ∷ 65 ∷ 77 ∷ 80 ∷ 76 ∷ 69 ∷ 0 ∷ 11 ∷ 72 ∷ 77 ∷ 65 ∷ 67 ∷ 45 ∷ 83 ∷ 72 ∷ 65 ∷ 50 ∷ 53 ∷ 54 ∷ 0
    ∷ 1 ∷ 66 ∷ 7 ∷ 69 ∷ 88 ∷ 65 ∷ 77 ∷ 80 ∷ 76 ∷ 69 ∷ 0 ∷ 0 ∷ 25 ∷ 0 ∷ 1 ∷ 0 ∷ 0 ∷ 0 ∷ 5 ∷ 0 ∷ 4 ∷ 2 ∷ 0 ∷ 3 ∷ 1 ∷ []
unfolding after
late_renewal_lem = refl
