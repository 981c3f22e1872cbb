-- Keys that go, computed by antt (02, CR 8). For each way that the paper names, a run from a new table: the key passes a message up, the key goes, and the same
-- octets are answered with BADKEY. Then times that do not end a key, a clock that goes back, batches, and what a load or a second new table brings back. Assumes
-- nothing.
use Prim.Native.Nat.{ℕ}
use mathlib.Core.Path.{◌≡◌, refl}
use mathlib.Core.Bool.{true, false}
use Rattle.std.specs.Prelude.{None}
use mathlib.Core.List.{List, [], ◌∷◌, ◌++◌, map}
use lib.ListN.{length}
use lib.IntN.{pos, negsuc}
use Rattle.model.specs.declared.BatchItem.{BatchItem}
use Rattle.model.specs.declared.Key.{Key}
use Rattle.model.specs.declared.Keys.{Keys}
use Rattle.model.specs.declared.Keys.TheVariants.{Empty, Adopted, Renewing}
use Rattle.model.specs.Names.{key_name}
use Rattle.model.specs.Tables.{Table, pair_at}
use Rattle.model.specs.Replies.{record_octets}
use Rattle.model.specs.Calls.{Outcome, issue, message, empty_table, new_table}
use Rattle.model.specs.Runs.{Operation, enrol, close, call, operated, operated_all, names_made}
use Rattle.model.specs.Batches.{Batched, inside, batch_ok, given_by, item_call, refused_whole, in_turn, batch_on}
use Rattle.model.specs.Listing.{listing}
use Rattle.model.specs.Loading.{Loaded, no_line, no_table, loaded, load}
use Rattle.model.proofs.Requests.{suffix, header, root_query, stamp, unkeyed, ordinary, renewal_by, tkey_by, adoption_by}
use Rattle.model.proofs.Running.{after, loading}
use Rattle.model.proofs.Day.{Seen, seen, opening, at, key, first, passes, refuses, answers}

-- ── What is looked at ───────────────────────────────────────────────────────────────────────────────────────────────

-- What each operation of a run shows, in order: numbers, reply and the keys of pair 1 afterwards.
abbrev pub shows : Table → List Operation → List Seen
shows t [] = []
shows t (o ∷ os) = seen (operated t o) ∷ shows (operated t o).table os

-- Done by an operator, with this pair and serial; refused with this number.
abbrev done : ℕ → ℕ → Keys → Seen
done pair serial keys = record { number = 0; length = 0; rcode = None; error = 0; skew = pos 0; pair = pair; serial = serial; tkey = None; keys = keys }

abbrev numbered : ℕ → Keys → Seen
numbered n keys = record { number = n; length = 0; rcode = None; error = 0; skew = pos 0; pair = 0; serial = 0; tkey = None; keys = keys }

-- BADKEY.
abbrev unknown : Keys → Seen
unknown keys = refuses 17 0 0 keys

-- The day's table: a new one, and a.example. enrolled at 1000 with L 600 and P 400.
abbrev pub start : Table
start = operated_all (new_table (empty_table 0) 1000).table opening

-- A query by key 1 and one by key 2, each signed at 1200 with fudge 300: the same octets whenever they come.
abbrev pub by_first : List ℕ
by_first = ordinary 1 1200

abbrev pub by_second : List ℕ
by_second = ordinary 2 1200

-- A deletion of key 1, signed with it.
abbrev pub deletion : ℕ → List ℕ
deletion time = tkey_by 1 1 5 [] [] time

-- Keys 1 and 2 after a renewal at 1200, and key 3, which another call makes at 1201.
abbrev pub old : Key
old = key 1 1000 1200 1600

abbrev pub second : Key
second = key 2 1200 1600 1800

abbrev pub third : Key
third = key 3 1201 1601 1801

-- After the renewal at 1200.
abbrev pub renewing : List Operation
renewing = opening ++ (at 1200 (renewal_by 1 1200) ∷ [])

-- ── Each way ────────────────────────────────────────────────────────────────────────────────────────────────────────

-- "Adopted over."
pub adopted_over_lem :
    shows start (at 1100 by_first ∷ at 1200 (renewal_by 1 1200) ∷ at 1202 (adoption_by 1 2 1202) ∷ at 1203 by_first ∷ [])
    ≡ passes (pos 100) 1 (Adopted first)
    ∷ answers 114 0 1 (Renewing old second)
    ∷ answers 107 0 1 (Adopted second)
    ∷ unknown (Adopted second)
    ∷ []
unfolding seen opening after
adopted_over_lem = refl

-- "Deleted." (In a run from a new table no waiting key is deleted: decision 25.)
pub deleted :
    shows start (at 1100 by_first ∷ at 1150 (deletion 1150) ∷ at 1151 by_first ∷ [])
    ≡ passes (pos 100) 1 (Adopted first) ∷ answers 81 0 1 Empty ∷ unknown Empty ∷ []
unfolding seen opening after
deleted = refl

-- "Dropped by a later renewal": a key that waits. As long as it waits it is unknown; it is adopted, and then passes the message up, unless another renewal came.
pub not_dropped :
    shows start (at 1200 (renewal_by 1 1200) ∷ at 1201 by_second ∷ at 1202 (adoption_by 1 2 1202) ∷ at 1203 by_second ∷ [])
    ≡ answers 114 0 1 (Renewing old second)
    ∷ unknown (Renewing old second)
    ∷ answers 107 0 1 (Adopted second)
    ∷ passes (negsuc 2) 2 (Adopted second)
    ∷ []
unfolding seen opening after
not_dropped = refl

-- 20 is BADNAME.
pub dropped :
    shows start (at 1200 (renewal_by 1 1200) ∷ at 1201 (renewal_by 1 1201) ∷ at 1202 (adoption_by 1 2 1202) ∷ at 1203 by_second ∷ [])
    ≡ answers 114 0 1 (Renewing old second)
    ∷ answers 114 0 1 (Renewing old third)
    ∷ answers 107 20 1 (Renewing old third)
    ∷ unknown (Renewing old third)
    ∷ []
unfolding seen opening after
dropped = refl

-- "Replaced by issue": the adopted key; and a waiting key, which then nobody can adopt.
pub replaced :
    (shows start (at 1100 by_first ∷ call (issue 1150 1 256) ∷ at 1151 by_first ∷ [])
    ≡ passes (pos 100) 1 (Adopted first) ∷ done 1 2 (Adopted (key 2 1150 1550 1750)) ∷ unknown (Adopted (key 2 1150 1550 1750)) ∷ [])
    × (shows start (at 1200 (renewal_by 1 1200) ∷ call (issue 1201 1 256) ∷ at 1202 (adoption_by 3 2 1202) ∷ at 1203 by_second ∷ [])
    ≡ answers 114 0 1 (Renewing old second)
    ∷ done 1 3 (Adopted third)
    ∷ answers 107 20 3 (Adopted third)
    ∷ unknown (Adopted third)
    ∷ [])
unfolding seen opening after
replaced = (refl, refl)

-- Closed (CR 9), also where the suffix comes back.
pub closed :
    shows start (at 1100 by_first ∷ close 1150 1 ∷ at 1151 by_first ∷ enrol 1152 suffix 600 400 256 ∷ at 1153 by_first ∷ [])
    ≡ passes (pos 100) 1 (Adopted first)
    ∷ done 0 0 Empty
    ∷ unknown Empty
    ∷ done 1 2 (Adopted (key 2 1152 1552 1752))
    ∷ unknown (Adopted (key 2 1152 1552 1752))
    ∷ []
unfolding seen opening after
closed = refl

-- "Judged at a time not before its expiry that passed TIME and CLOCK", which is 1600; "even if the caller's clock goes back": at 1300, when the message was passed up
-- before, it is refused with CLOCK now, and so at 1599; at 1600 it is unknown, "whatever the verdict". The key itself stays in its row.
pub judged_late :
    shows start (at 1300 by_first ∷ at 1600 by_first ∷ at 1300 by_first ∷ at 1599 by_first ∷ at 1600 by_first ∷ call (message (unkeyed 1600 false []) 512 by_first) ∷ [])
    ≡ passes (negsuc 99) 1 (Adopted first)
    ∷ unknown (Adopted first)
    ∷ numbered 3 (Adopted first)
    ∷ numbered 3 (Adopted first)
    ∷ unknown (Adopted first)
    ∷ unknown (Adopted first)
    ∷ []
unfolding seen opening after
judged_late = refl

-- Names are compared without regard to case: the same query with the names of key and algorithm in capitals.
abbrev pub in_capitals : List ℕ
in_capitals =
    header 0 1
    ++ (root_query
    ++ record_octets (1 ∷ 49 ∷ 1 ∷ 65 ∷ 7 ∷ 69 ∷ 88 ∷ 65 ∷ 77 ∷ 80 ∷ 76 ∷ 69 ∷ 0 ∷ []) 250 255 0
    ((11 ∷ 72 ∷ 77 ∷ 65 ∷ 67 ∷ 45 ∷ 83 ∷ 72 ∷ 65 ∷ 50 ∷ 53 ∷ 54 ∷ 0 ∷ []) ++ stamp 1200))

pub capitals :
    shows start (at 1100 in_capitals ∷ at 1150 (deletion 1150) ∷ at 1151 in_capitals ∷ [])
    ≡ passes (pos 100) 1 (Adopted first) ∷ answers 81 0 1 Empty ∷ unknown Empty ∷ []
unfolding seen opening after
capitals = refl

-- ── Times, and which calls look at them ─────────────────────────────────────────────────────────────────────────────

-- A time that does not pass TIME is not one at which a key is judged; a renewal at 1599 is in time.
pub not_judged :
    shows start (at 0xffff_8000_0000 by_first ∷ at 1300 by_first ∷ at 1599 (renewal_by 1 1599) ∷ [])
    ≡ numbered 2 (Adopted first)
    ∷ passes (negsuc 99) 1 (Adopted first)
    ∷ answers 114 0 1 (Renewing first (key 2 1599 1999 2199))
    ∷ []
unfolding seen opening after
not_judged = refl

-- Any other call that passes at its expiry ends a key too: here one of no pair, which is refused with NOPAIR.
pub outlived :
    shows start (at 1300 by_first ∷ call (issue 1600 9 256) ∷ at 1300 by_first ∷ at 1600 by_first ∷ [])
    ≡ passes (negsuc 99) 1 (Adopted first) ∷ numbered 9 (Adopted first) ∷ numbered 3 (Adopted first) ∷ unknown (Adopted first) ∷ []
unfolding seen opening after
outlived = refl

-- ── Batches ─────────────────────────────────────────────────────────────────────────────────────────────────────────

-- In one batch key 1 passes a message up, is deleted, and the same octets come again.
abbrev pub lent : List ℕ
lent = by_first ++ deletion 1150

abbrev item : ℕ → ℕ → ℕ → BatchItem
item time from size =
    record { time = time; good = true; message = record { from = from; size = size }; offer = record { from = 0; size = 0 }; fits = false; second = record { from = 0; size = 0 } }

abbrev pub items : List BatchItem
items =
    let a = length by_first in
    item 1100 0 a ∷ item 1150 a (length (deletion 1150)) ∷ item 1151 0 a ∷ []

-- Of each item its number, its reply's length, its TSIG error and its serial; and the keys afterwards.
abbrev ends : Batched → List (ℕ × (ℕ × (ℕ × ℕ)))
ends r = map (λ (o : Outcome). (o.answer.number, (o.answer.length, (o.answer.error, o.answer.serial)))) r.outcomes

pub in_a_batch :
    (ends (batch_on start lent items 512)
    ≡ (0, (0, (0, 1))) ∷ (0, (81, (0, 1))) ∷ (0, (17, (17, 0))) ∷ [])
    × ((pair_at (batch_on start lent items 512).table 0).keys ≡ Empty)
unfolding opening after inside batch_ok given_by item_call refused_whole in_turn batch_on
in_a_batch = (refl, refl)

-- ── What the paper leaves out ───────────────────────────────────────────────────────────────────────────────────────

-- "Without a load": the table is listed, key 1 is deleted, the old listing is loaded, and the message is passed up again. The serials go back too: the name of key 2
-- is made twice.
abbrev loaded_or : Table → Loaded → Table
loaded_or t (no_line n) = t
loaded_or t no_table = t
loaded_or t (loaded u) = u

abbrev reloaded : List Operation → Table
reloaded os = loaded_or (operated_all start os) (load (listing start))

pub a_load :
    (shows (operated_all start (at 1150 (deletion 1150) ∷ [])) (at 1151 by_first ∷ []) ≡ unknown Empty ∷ [])
    × (shows (reloaded (at 1150 (deletion 1150) ∷ [])) (at 1151 by_first ∷ []) ≡ passes (pos 49) 1 (Adopted first) ∷ [])
    × (names_made start (at 1200 (renewal_by 1 1200) ∷ []) ≡ key_name 2 suffix ∷ [])
    × (names_made (reloaded (at 1200 (renewal_by 1 1200) ∷ [])) (at 1200 (renewal_by 1 1200) ∷ []) ≡ key_name 2 suffix ∷ [])
unfolding seen opening loading
a_load = (refl, refl, refl, refl)

-- "Or a second new table": the suffix is enrolled again, and its first key has the old name.
pub a_new_table :
    shows (new_table (operated_all start (at 1150 (deletion 1150) ∷ [])) 1151).table (enrol 1151 suffix 600 400 256 ∷ at 1152 by_first ∷ [])
    ≡ done 1 1 (Adopted (key 1 1151 1551 1751)) ∷ passes (pos 48) 1 (Adopted (key 1 1151 1551 1751)) ∷ []
unfolding seen opening after
a_new_table = refl
