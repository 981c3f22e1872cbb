-- Edges of the calls, computed by antt: sizes and times, refusals alone and in their order, what each operator call leaves, look, the buffer, and each table
-- rule broken alone. Assumes nothing.
use Prim.Native.Nat.{ℕ, zero, suc}
use mathlib.Core.Path.{◌≡◌, refl}
use mathlib.Core.Bool.{Bool, true, false}
use Rattle.std.specs.Prelude.{Option, None, Some}
use mathlib.Core.List.{List, [], ◌∷◌, ◌++◌}
use lib.ListN.{replicate}
use lib.IntN.{pos}
use Rattle.model.specs.declared.Algorithm.{Algorithm}
use Rattle.model.specs.declared.Algorithm.TheVariants.{Sha256, Sha384, Sha512}
use Rattle.model.specs.declared.Key.{Key}
use Rattle.model.specs.declared.Keys.{Keys}
use Rattle.model.specs.declared.Keys.TheVariants.{Empty, Adopted, Renewing}
use Rattle.model.specs.Names.{key_name, algorithm_name}
use Rattle.model.specs.Tables.{Row, Table, table_rules}
use Rattle.model.specs.Replies.{record_octets}
use Rattle.model.specs.Calls.{Outcome, Result, new_table, size_ok, room_for, Call, issue, revoke, look, message, owner_of, buffer_after}
use Rattle.model.specs.Runs.{Operation, enrol, call, operated}
use Rattle.model.proofs.Requests.{unkeyed, suffix, other_suffix, header_of, header, question, root_query, stamp, tsig, ordinary, renewal_by}
use Rattle.model.proofs.Running.{after}
use Rattle.model.proofs.Day.{at, key, first}

-- ── Tables, and what is looked at ───────────────────────────────────────────────────────────────────────────────────

abbrev pub row : List ℕ → ℕ → ℕ → ℕ → Keys → Row
row suffix lifetime fresh next keys =
    record { suffix = suffix; pair = record { lifetime = lifetime; fresh = fresh; next_serial = next; keys = keys } }

abbrev pub table_of : ℕ → List Row → Table
table_of clock rows = record { clock = clock; floor = 1; rows = rows }

-- a.example. alone, with L 600 and P 400: the clock, the next serial and the keys; and the day's table just after enrolment.
abbrev pub one : ℕ → ℕ → Keys → Table
one clock next keys = table_of clock (row suffix 600 400 next keys ∷ [])

abbrev pub enrolled : Table
enrolled = one 1000 2 (Adopted first)

-- Key 1, not yet revoked, with key 2 waiting.
abbrev pub renewing : Keys
renewing = Renewing first (key 2 1200 1600 1800)

-- The number that an operation ends with; what it returns when it is done with no reply.
abbrev pub number : Table → Operation → ℕ
number t o = (operated t o).outcome.answer.number

abbrev pub done : ℕ → ℕ → Outcome
done pair serial = record { answer = record { number = 0; length = 0; error = 0; skew = pos 0; pair = pair; serial = serial; place = 0 }; reply = [] }

abbrev pub refused : ℕ → Outcome
refused n = record { answer = record { number = n; length = 0; error = 0; skew = pos 0; pair = 0; serial = 0; place = 0 }; reply = [] }

abbrev leaving : Table → Outcome → Result
leaving t o = record { table = t; outcome = o }

-- ── Sizes and times (01, "Numbers a caller sees") ───────────────────────────────────────────────────────────────────

-- SIZE: "message shorter than 12 or longer than 65,535 octets"; of a message and of a look.
pub sizes :
    (size_ok (replicate 11 0) ≡ false)
    × (size_ok (replicate 12 0) ≡ true)
    × (size_ok (replicate 65535 0) ≡ true)
    × (size_ok (replicate 65536 0) ≡ false)
    × (number enrolled (at 1000 (replicate 11 0)) ≡ 4)
    × (number enrolled (at 1000 (replicate 12 0)) ≡ 0)
    × (number enrolled (call (look (replicate 11 0))) ≡ 4)
    × (number enrolled (call (look (replicate 12 0))) ≡ 0)
unfolding after
sizes = (refl, refl, refl, refl, refl, refl, refl, refl)

-- OFFER: "offered key data over 1024 octets"
abbrev offering : ℕ → ℕ
offering n = number enrolled (call (message (unkeyed 1000 true (replicate n 1)) 0 (ordinary 1 1000)))

pub offers : (offering 1024 ≡ 0) × (offering 1025 ≡ 5)
unfolding after
offers = (refl, refl)

-- ROOM: "reply longer than the lent reply buffer or than 65,535 octets". A reply of 17 octets.
pub rooms :
    (number enrolled (call (message (unkeyed 1400 true []) 17 (ordinary 1 1400))) ≡ 0)
    × (number enrolled (call (message (unkeyed 1400 true []) 16 (ordinary 1 1400))) ≡ 8)
    × (room_for 65536 (replicate 65535 0) ≡ true)
    × (room_for 65536 (replicate 65536 0) ≡ false)
unfolding after
rooms = (refl, refl, refl, refl)

-- TIME: "time is 2^48 − 2^31 or more"; CLOCK: "time is before the table's clock".
pub times :
    (number enrolled (call (issue 0xffff_7fff_ffff 1 256)) ≡ 0)
    × (number enrolled (call (issue 0xffff_8000_0000 1 256)) ≡ 2)
    × (number enrolled (call (issue 1000 1 256)) ≡ 0)
    × (number enrolled (call (issue 999 1 256)) ≡ 3)
unfolding after
times = (refl, refl, refl, refl)

-- ── Refusals in their order ─────────────────────────────────────────────────────────────────────────────────────────

-- A table whose clock breaks a rule, and one whose clock is past every time.
abbrev broken : Table
broken = table_of 0x1_0000_0000_0000 []

abbrev late : Table
late = table_of 0xffff_ffff_ffff []

-- "The order is 1, 2, 3": TABLE, for a time that is too late and before the clock; TIME, for the same time; CLOCK. What comes after is wrong each time too.
abbrev Gated : (ℕ → Operation) → Type 0
Gated o = (number broken (o 0xffff_8000_0000) ≡ 1) × (number late (o 0xffff_8000_0000) ≡ 2) × (number late (o 999) ≡ 3)

pub gate_order :
    Gated (λ time. enrol time [] 0 0 0)
    × Gated (λ time. call (issue time 0 0))
    × Gated (λ time. call (revoke time 0))
    × Gated (λ time. call (message (unkeyed time false (replicate 1025 0)) 0 []))
unfolding after
gate_order = ((refl, refl, refl), (refl, refl, refl), (refl, refl, refl), (refl, refl, refl))

-- New table is "refused only with TIME"; its clock is "the time given".
pub new_tables :
    (new_table broken 0xffff_8000_0000 ≡ leaving broken (refused 2))
    × (new_table broken 0xffff_7fff_ffff ≡ leaving (table_of 0xffff_7fff_ffff []) (done 0 0))
    × (new_table enrolled 999 ≡ leaving (table_of 999 []) (done 0 0))
unfolding after
new_tables = (refl, refl, refl)

-- 64 pairs, or more, or fewer: suffixes of one label of one octet.
abbrev pub rows_of : ℕ → List Row
rows_of zero = []
rows_of (suc n) = row (1 ∷ n ∷ 0 ∷ []) 600 400 1 Empty ∷ rows_of n

abbrev full : Table
full = table_of 1000 (rows_of 64)

-- "For enrol 12 to 15", each with all that follow it: NAME; TERM for L and P, then for the algorithm; TWIN; FULL.
pub enrol_order :
    (number full (enrol 1000 (0 ∷ []) 400 400 1) ≡ 12)
    × (number full (enrol 1000 (1 ∷ 0 ∷ 0 ∷ []) 400 400 256) ≡ 13)
    × (number full (enrol 1000 (1 ∷ 0 ∷ 0 ∷ []) 600 400 1) ≡ 13)
    × (number full (enrol 1000 (1 ∷ 0 ∷ 0 ∷ []) 600 400 256) ≡ 14)
    × (number full (enrol 1000 suffix 600 400 256) ≡ 15)
unfolding after
enrol_order = (refl, refl, refl, refl, refl)

-- "For issue 9, 11, 13", each with all that follow it; "pair number not enrolled" is 0 too.
abbrev spent : Table
spent = one 1000 0x1_0000_0000 (Adopted first)

pub issue_order :
    (number spent (call (issue 1000 0 1)) ≡ 9)
    × (number spent (call (issue 1000 2 1)) ≡ 9)
    × (number spent (call (issue 1000 1 1)) ≡ 11)
    × (number enrolled (call (issue 1000 1 1)) ≡ 13)
unfolding after
issue_order = (refl, refl, refl, refl)

-- "For revoke 9, 10"; NOKEY: "no adopted key, or expired".
pub revoke_order :
    (number enrolled (call (revoke 1000 0)) ≡ 9)
    × (number enrolled (call (revoke 1000 2)) ≡ 9)
    × (number (one 1000 2 Empty) (call (revoke 1000 1)) ≡ 10)
    × (number enrolled (call (revoke 1599 1)) ≡ 0)
    × (number enrolled (call (revoke 1600 1)) ≡ 10)
unfolding after
revoke_order = (refl, refl, refl, refl, refl)

-- "For a message 4 to 8", each with all that follow it. A header that is a reply's, and whose question is missing; an unsigned TKEY request, answered, with no
-- room for that.
abbrev cut : List ℕ
cut = header_of 4660 0x8000 1 0 0 0

abbrev asked : ℕ → List ℕ
asked flags = header_of 4660 flags 1 0 0 0 ++ question (0 ∷ []) 249 255

abbrev sent : List ℕ → List ℕ → ℕ
sent offer octets = number enrolled (call (message (unkeyed 1000 true offer) 0 octets))

pub message_order :
    (sent (replicate 1025 0) (replicate 11 255) ≡ 4)
    × (sent (replicate 1025 0) cut ≡ 5)
    × (sent [] cut ≡ 6)
    × (sent [] (asked 0x8000) ≡ 7)
    × (sent [] (asked 0) ≡ 8)
unfolding after
message_order = (refl, refl, refl, refl, refl)

-- "Look gives 1, 4, 6 and 7 only": no TIME or CLOCK.
pub look_order :
    (number broken (call (look (replicate 11 255))) ≡ 1)
    × (number late (call (look (replicate 11 255))) ≡ 4)
    × (number enrolled (call (look cut)) ≡ 6)
    × (number enrolled (call (look (asked 0x8000))) ≡ 7)
    × (number enrolled (call (look (asked 0))) ≡ 0)
unfolding after
look_order = (refl, refl, refl, refl, refl)

-- "A refusal returns its number, all else 0." "Every call that passes 1 to 3 sets the table's clock to its time, later refusals included; nothing else
-- changes." "ROOM is found before any key changes": a renewal whose reply of 114 octets has no room.
pub refusals_whole :
    (operated enrolled (enrol 1100 [] 600 400 256) ≡ leaving (one 1100 2 (Adopted first)) (refused 12))
    × (operated enrolled (call (issue 1100 1 1)) ≡ leaving (one 1100 2 (Adopted first)) (refused 13))
    × (operated enrolled (call (revoke 1600 1)) ≡ leaving (one 1600 2 (Adopted first)) (refused 10))
    × (operated enrolled (call (message (unkeyed 1200 true (1 ∷ 2 ∷ 3 ∷ 4 ∷ [])) 113 (renewal_by 1 1200))) ≡ leaving (one 1200 2 (Adopted first)) (refused 8))
    × ((operated enrolled (call (message (unkeyed 1200 true (1 ∷ 2 ∷ 3 ∷ 4 ∷ [])) 114 (renewal_by 1 1200)))).outcome.answer.number ≡ 0)
    × (operated enrolled (call (issue 999 1 256)) ≡ leaving enrolled (refused 3))
unfolding after
refusals_whole = (refl, refl, refl, refl, refl, refl)

-- ── What the operator's calls leave (01, "The desk's business") ─────────────────────────────────────────────────────

abbrev key_of : Algorithm → ℕ → ℕ → ℕ → ℕ → Key
key_of g serial inception partial expiry = record { serial = serial; algorithm = g; inception = inception; partial = partial; expiry = expiry }

-- "Enrolment adds a pair with its first key, serial 1", behind those that are there; "keys made so get their times as in Renewal".
pub enrolments :
    (operated enrolled (enrol 1100 other_suffix 90 60 512)
    ≡ leaving (table_of 1100 (row suffix 600 400 2 (Adopted first) ∷ row other_suffix 90 60 2 (Adopted (key_of Sha512 1 1100 1160 1190)) ∷ [])) (done 2 1))
    × ((operated (table_of 1000 (rows_of 63)) (enrol 1000 suffix 600 400 256)).outcome ≡ done 64 1)
unfolding after
enrolments = (refl, refl)

-- Issue "gives a pair a fresh adopted key and drops what it had", a waiting key too; it "takes the next serial". SPENT: "next serial is 2^32".
pub issues :
    (operated (one 1200 3 renewing) (call (issue 1250 1 384)) ≡ leaving (one 1250 4 (Adopted (key_of Sha384 3 1250 1650 1850))) (done 1 3))
    × (operated (one 1000 0xffff_ffff Empty) (call (issue 1000 1 512))
    ≡ leaving (one 1000 0x1_0000_0000 (Adopted (key_of Sha512 0xffff_ffff 1000 1400 1600))) (done 1 0xffff_ffff))
unfolding after
issues = (refl, refl)

-- "Revoke early makes the partial time the earlier of itself and now." A waiting key stays as it is.
pub revocations :
    (operated enrolled (call (revoke 1100 1)) ≡ leaving (one 1100 2 (Adopted (key 1 1000 1100 1600))) (done 1 1))
    × (operated enrolled (call (revoke 1500 1)) ≡ leaving (one 1500 2 (Adopted first)) (done 1 1))
    × (operated (one 1200 3 renewing) (call (revoke 1300 1))
    ≡ leaving (one 1300 3 (Renewing (key 1 1000 1300 1600) (key 2 1200 1600 1800))) (done 1 1))
unfolding after
revocations = (refl, refl, refl)

-- Two pairs, "numbered from 1"; a call touches its own alone.
abbrev pub two : ℕ → Keys → Keys → Table
two clock a b = table_of clock (row suffix 600 400 3 a ∷ row other_suffix 600 400 3 b ∷ [])

pub own_rows :
    (operated (two 1200 renewing renewing) (call (issue 1250 2 256))
    ≡ leaving (table_of 1250 (row suffix 600 400 3 renewing ∷ row other_suffix 600 400 4 (Adopted (key 3 1250 1650 1850)) ∷ [])) (done 2 3))
    × (operated (two 1200 renewing renewing) (call (revoke 1250 1))
    ≡ leaving (two 1250 (Renewing (key 1 1000 1250 1600) (key 2 1200 1600 1800)) renewing) (done 1 1))
unfolding after
own_rows = (refl, refl)

-- ── Look ────────────────────────────────────────────────────────────────────────────────────────────────────────────

-- A query signed with this name and algorithm.
abbrev pub signed_by : List ℕ → Algorithm → List ℕ
signed_by name g = header 0 1 ++ (root_query ++ record_octets name 250 255 0 (algorithm_name g ++ stamp 1000))

abbrev looked : Table → List ℕ → Result
looked t octets = operated t (call (look octets))

-- Look "names the pair and serial of the adopted key whose name and algorithm a well-placed TSIG gives, expired or not, 0 and 0 when there is none; changes
-- nothing, takes no time": of each pair; of an expired key; then of a waiting key, of a key that was never made, of another algorithm and of another suffix.
pub looks :
    (looked (two 1200 renewing (Adopted first)) (ordinary 1 1000) ≡ leaving (two 1200 renewing (Adopted first)) (done 1 1))
    × ((looked (two 1200 renewing (Adopted (key 2 1200 1600 1800))) (signed_by (key_name 2 other_suffix) Sha256)).outcome ≡ done 2 2)
    × (looked (one 5000 2 (Adopted first)) (ordinary 1 5000) ≡ leaving (one 5000 2 (Adopted first)) (done 1 1))
    × ((looked (one 1200 3 renewing) (ordinary 2 1200)).outcome ≡ done 0 0)
    × ((looked enrolled (ordinary 77 1000)).outcome ≡ done 0 0)
    × ((looked enrolled (signed_by (key_name 1 suffix) Sha384)).outcome ≡ done 0 0)
    × ((looked enrolled (signed_by (key_name 1 other_suffix) Sha256)).outcome ≡ done 0 0)
unfolding after
looks = (refl, refl, refl, refl, refl, refl, refl)

-- of no TSIG, and of one that is not well placed
pub looks_unsigned :
    ((looked enrolled (header 0 0 ++ root_query)).outcome ≡ done 0 0) × ((looked enrolled (header 1 0 ++ (root_query ++ tsig 1 1000))).outcome ≡ done 0 0)
unfolding after
looks_unsigned = (refl, refl)

-- ── Whose a call is ─────────────────────────────────────────────────────────────────────────────────────────────────

-- More than `Examples` has of ownership. A TSIG owned by the root, or by the suffix itself, belongs to no pair, one owned by 01.a.example. to the first, and
-- one of b.example. to the second; "a message or look whose octets break SIZE .. belongs to none": 65,558 octets and a TSIG.
abbrev owner_in : List ℕ → Option ℕ
owner_in octets = owner_of (suffix ∷ other_suffix ∷ []) (look octets)

abbrev huge : List ℕ
huge = header_of 4660 0 0 0 0 2 ++ ((0 ∷ 0 ∷ 1 ∷ 0 ∷ 1 ∷ 0 ∷ 0 ∷ 0 ∷ 0 ∷ 255 ∷ 255 ∷ []) ++ (replicate 65535 0 ++ tsig 1 1000))

pub owners :
    (owner_in (signed_by (0 ∷ []) Sha256) ≡ None)
    × (owner_in (signed_by suffix Sha256) ≡ None)
    × (owner_in (signed_by (2 ∷ 48 ∷ 49 ∷ suffix) Sha256) ≡ Some 0)
    × (owner_in (signed_by (key_name 7 other_suffix) Sha512) ≡ Some 1)
    × (owner_in huge ≡ None)
unfolding after
owners = (refl, refl, refl, refl, refl)

-- "Operator calls belong to the pair they number, if it is enrolled."
abbrev owned : Call → Option ℕ
owned c = owner_of (suffix ∷ other_suffix ∷ []) c

pub numbered :
    (owned (issue 1000 0 256) ≡ None) × (owned (issue 1000 1 256) ≡ Some 0) × (owned (revoke 1000 2) ≡ Some 1) × (owned (revoke 1000 3) ≡ None)
unfolding after
numbered = (refl, refl, refl, refl)

-- ── The buffer ──────────────────────────────────────────────────────────────────────────────────────────────────────

-- "A reply fills the first octets of its buffer; the rest keep their contents." A reply of 17 octets in a buffer of 20; no reply; no room.
abbrev lent : ℕ → ℕ → List ℕ
lent time room = buffer_after (operated enrolled (call (message (unkeyed time true []) room (ordinary 1 time)))) (replicate room 7)

pub buffers :
    (lent 1400 20 ≡ 18 ∷ 52 ∷ 128 ∷ 9 ∷ 0 ∷ 1 ∷ 0 ∷ 0 ∷ 0 ∷ 0 ∷ 0 ∷ 0 ∷ 0 ∷ 0 ∷ 1 ∷ 0 ∷ 1 ∷ 7 ∷ 7 ∷ 7 ∷ [])
    × (lent 1399 3 ≡ 7 ∷ 7 ∷ 7 ∷ [])
    × (lent 1400 3 ≡ 7 ∷ 7 ∷ 7 ∷ [])
unfolding after
buffers = (refl, refl, refl)

-- ── The table rules, each broken alone ──────────────────────────────────────────────────────────────────────────────

-- One pair with this clock, L, P, next serial and keys keeps the rules.
abbrev rules : ℕ → ℕ → ℕ → ℕ → Keys → Bool
rules clock lifetime fresh next keys = table_rules (table_of clock (row suffix lifetime fresh next keys ∷ []))

-- "At most 64 pairs; clock below 2^48"
pub table_rules_lem :
    (table_rules (table_of 0xffff_ffff_ffff (rows_of 64)) ≡ true)
    × (table_rules (table_of 1000 (rows_of 65)) ≡ false)
    × (table_rules (table_of 0x1_0000_0000_0000 []) ≡ false)
unfolding after
table_rules_lem = (refl, refl, refl)

-- "Suffixes valid and distinct", a suffix being "an uncompressed wire name of 3 to 128 octets": of 128 and 129 octets, of 3, 2 and 1; with an octet left over,
-- cut, with a pointer.
abbrev named : List (List ℕ) → List Row
named [] = []
named (s ∷ ss) = row s 600 400 1 Empty ∷ named ss

abbrev suffixed : List (List ℕ) → Bool
suffixed ss = table_rules (table_of 1000 (named ss))

abbrev label : ℕ → List ℕ
label n = n ∷ replicate n 97

pub suffix_rules :
    (suffixed ((label 63 ++ (label 62 ++ (0 ∷ []))) ∷ []) ≡ true)
    × (suffixed ((label 63 ++ (label 63 ++ (0 ∷ []))) ∷ []) ≡ false)
    × (suffixed ((1 ∷ 97 ∷ 0 ∷ []) ∷ []) ≡ true)
    × (suffixed ((1 ∷ 97 ∷ []) ∷ []) ≡ false)
    × (suffixed ((0 ∷ []) ∷ []) ≡ false)
    × (suffixed ((1 ∷ 97 ∷ 0 ∷ 0 ∷ []) ∷ []) ≡ false)
    × (suffixed ((3 ∷ 97 ∷ 0 ∷ []) ∷ []) ≡ false)
    × (suffixed ((1 ∷ 97 ∷ 192 ∷ 0 ∷ []) ∷ []) ≡ false)
unfolding after
suffix_rules = (refl, refl, refl, refl, refl, refl, refl, refl)

-- twins in another case, beside each other and apart
pub twin_rules :
    (suffixed ((1 ∷ 97 ∷ 0 ∷ []) ∷ (1 ∷ 98 ∷ 0 ∷ []) ∷ (1 ∷ 99 ∷ 0 ∷ []) ∷ []) ≡ true)
    × (suffixed ((1 ∷ 97 ∷ 0 ∷ []) ∷ (1 ∷ 65 ∷ 0 ∷ []) ∷ []) ≡ false)
    × (suffixed ((1 ∷ 97 ∷ 0 ∷ []) ∷ (1 ∷ 98 ∷ 0 ∷ []) ∷ (1 ∷ 65 ∷ 0 ∷ []) ∷ []) ≡ false)
    × (suffixed ((1 ∷ 98 ∷ 0 ∷ []) ∷ (1 ∷ 97 ∷ 0 ∷ []) ∷ (1 ∷ 65 ∷ 0 ∷ []) ∷ []) ≡ false)
unfolding after
twin_rules = (refl, refl, refl, refl)

-- "L and P as in TERM": "1 ≤ P < L ≤ 2^31 − 1"
pub term_rules :
    (rules 1000 2 1 1 Empty ≡ true)
    × (rules 1000 2 0 1 Empty ≡ false)
    × (rules 1000 2 2 1 Empty ≡ false)
    × (rules 1000 0x7fff_ffff 1 1 Empty ≡ true)
    × (rules 1000 0x8000_0000 1 1 Empty ≡ false)
unfolding after
term_rules = (refl, refl, refl, refl, refl)

-- "Each next serial 1 to 2^32; key serials at least 1 and below next"
pub serial_rules :
    (rules 1000 600 400 1 Empty ≡ true)
    × (rules 1000 600 400 0 Empty ≡ false)
    × (rules 1000 600 400 0x1_0000_0000 (Adopted (key 0xffff_ffff 1000 1400 1600)) ≡ true)
    × (rules 1000 600 400 0x1_0000_0001 Empty ≡ false)
    × (rules 1000 600 400 2 (Adopted (key 1 1000 1400 1600)) ≡ true)
    × (rules 1000 600 400 2 (Adopted (key 0 1000 1400 1600)) ≡ false)
    × (rules 1000 600 400 2 (Adopted (key 2 1000 1400 1600)) ≡ false)
unfolding after
serial_rules = (refl, refl, refl, refl, refl, refl, refl)

-- "Inception ≤ partial < expiry = inception + L < 2^48; inception ≤ clock"
pub key_rules :
    (rules 1000 600 400 2 (Adopted (key 1 1000 1000 1600)) ≡ true)
    × (rules 1000 600 400 2 (Adopted (key 1 1000 999 1600)) ≡ false)
    × (rules 1000 600 400 2 (Adopted (key 1 1000 1599 1600)) ≡ true)
    × (rules 1000 600 400 2 (Adopted (key 1 1000 1600 1600)) ≡ false)
    × (rules 1000 600 400 2 (Adopted (key 1 1000 1400 1599)) ≡ false)
    × (rules 1000 600 400 2 (Adopted (key 1 1000 1400 1601)) ≡ false)
    × (rules 999 600 400 2 (Adopted (key 1 1000 1400 1600)) ≡ false)
    × (rules 0xffff_ffff_ffff 600 400 2 (Adopted (key 1 0xffff_ffff_fda7 0xffff_ffff_fda7 0xffff_ffff_ffff)) ≡ true)
    × (rules 0xffff_ffff_ffff 600 400 2 (Adopted (key 1 0xffff_ffff_fda8 0xffff_ffff_fda8 0x1_0000_0000_0000)) ≡ false)
unfolding after
key_rules = (refl, refl, refl, refl, refl, refl, refl, refl, refl)

-- "Waiting serial above adopted"; "waiting expiry not before adopted expiry"; and either key's own rules.
pub waiting_rules :
    (rules 1200 600 400 3 (Renewing (key 1 1000 1400 1600) (key 2 1000 1400 1600)) ≡ true)
    × (rules 1200 600 400 3 (Renewing (key 2 1000 1400 1600) (key 2 1000 1400 1600)) ≡ false)
    × (rules 1200 600 400 3 (Renewing (key 1 1001 1400 1601) (key 2 1000 1400 1600)) ≡ false)
    × (rules 1200 600 400 3 (Renewing (key 1 1000 1600 1600) (key 2 1000 1400 1600)) ≡ false)
    × (rules 1200 600 400 3 (Renewing (key 1 1000 1400 1600) (key 2 1000 1600 1600)) ≡ false)
    × (rules 1200 600 400 3 (Renewing (key 1 1000 1400 1600) (key 3 1000 1400 1600)) ≡ false)
unfolding after
waiting_rules = (refl, refl, refl, refl, refl, refl)

-- of a second pair too
pub second_rules :
    (table_rules (two 1200 renewing renewing) ≡ true)
    × (table_rules (two 1200 renewing (Adopted (key 3 1000 1400 1600))) ≡ false)
unfolding after
second_rules = (refl, refl)
