-- Batches, computed by antt (02, CR 4): items in turn, the room that is left, where replies lie, each refusal of the whole, and the calls that a batch is. Assumes
-- nothing.
use Prim.Native.Nat.{ℕ, ◌+◌}
use mathlib.Core.Path.{◌≡◌, refl}
use mathlib.Core.Bool.{Bool, true, false}
use mathlib.Core.List.{List, [], ◌∷◌, ◌++◌, map}
use lib.ListN.{length, replicate, take, drop}
use Rattle.model.specs.declared.BatchItem.{BatchItem}
use Rattle.model.specs.declared.Keys.TheVariants.{Adopted}
use Rattle.model.specs.Tables.{Table, pair_at}
use Rattle.model.specs.Calls.{Outcome, issue, message, empty_table}
use Rattle.model.specs.Runs.{enrol}
use Rattle.model.specs.Batches.{BATCH, inside, batch_ok, given_by, item_call, Batched, refused_whole, in_turn, batch_on, replies_of, batch_buffer, Job, call, batch, calls_of, all_calls, done_job, final_of, job_log, each_replies}
use Rattle.model.proofs.Requests.{suffix, unkeyed, ordinary, renewal_by}
use Rattle.model.proofs.Running.{after}
use Rattle.model.proofs.Day.{first}
use Rattle.model.proofs.Edges.{two}

-- Every definition of batches opened.
unfoldable opened : Batched → Batched
unfolding after BATCH inside batch_ok given_by item_call refused_whole in_turn batch_on replies_of batch_buffer calls_of done_job
opened r = r

-- The table of 01's day just after enrolment; one whose clock breaks a rule.
abbrev table : Table
table = after (empty_table 1000) (enrol 1000 suffix 600 400 256 ∷ [])

abbrev broken : Table
broken = two 0x1_0000_0000_0000 (Adopted first) (Adopted first)

-- A renewal of 1.a.example. at 1200; a query signed with 2.a.example. at 1201, the key that waits then, so that it is unknown: BADKEY, a reply of 17 octets; and
-- an offer of two octets behind both.
abbrev renews : List ℕ
renews = renewal_by 1 1200

abbrev asks : List ℕ
asks = ordinary 2 1201

abbrev octets : List ℕ
octets = renews ++ (asks ++ (1 ∷ 2 ∷ []))

abbrev both : ℕ
both = length renews + length asks

-- The items: the renewal at a time, with a verdict and the offer or a part of it; the query at 1201.
abbrev renewal : ℕ → Bool → ℕ → BatchItem
renewal time good size = record { time = time; good = good; message = record { from = 0; size = length renews }; offer = record { from = both; size = size }; fits = false; second = record { from = 0; size = 0 } }

abbrev query : BatchItem
query = record { time = 1201; good = true; message = record { from = length renews; size = length asks }; offer = record { from = 0; size = 0 }; fits = false; second = record { from = 0; size = 0 } }

abbrev items : List BatchItem
items = renewal 1200 true 2 ∷ query ∷ []

-- What each item ends with: its number, its reply's length, its TSIG error.
abbrev ends : Batched → List (ℕ × (ℕ × ℕ))
ends r = map (λ (o : Outcome). (o.answer.number, (o.answer.length, o.answer.error))) r.outcomes

abbrev at : ℕ → List BatchItem → Batched
at room xs = batch_on table octets xs room

-- "Each with its time, verdict and offer": both are done, and the clock is the last item's; a bad verdict; no offer, so that there is no key to hand out.
pub done_so :
    ((at 129 items).number ≡ 0)
    × (ends (at 129 items) ≡ (0, (112, 0)) ∷ (0, (17, 17)) ∷ [])
    × ((at 129 items).table.clock ≡ 1201)
    × (ends (at 200 (renewal 1200 false 2 ∷ [])) ≡ (0, (17, 16)) ∷ [])
    × (ends (at 200 (renewal 1200 true 0 ∷ [])) ≡ (0, (83, 0)) ∷ [])
unfolding opened
done_so = (refl, refl, refl, refl, refl)

-- "Results, replies and final table equal calling one by one": each on the table that the one before left. Two renewals make keys 2 and 3; an item before the clock
-- and one at a time too late are refused alone.
pub in_turn_lem :
    (ends (at 999 (renewal 1200 true 2 ∷ renewal 1199 true 2 ∷ renewal 0xffff_8000_0000 true 2 ∷ renewal 1200 true 2 ∷ []))
    ≡ (0, (112, 0)) ∷ (3, (0, 0)) ∷ (2, (0, 0)) ∷ (0, (112, 0)) ∷ [])
    × ((pair_at (at 999 (renewal 1200 true 2 ∷ renewal 1200 true 2 ∷ [])).table 0).next_serial ≡ 4)
unfolding opened
in_turn_lem = (refl, refl)

-- "Lay the replies one after another in one buffer": each begins with the ID of its message; what is behind both keeps its contents.
abbrev buffer : List ℕ
buffer = batch_buffer (at 131 items) (replicate 131 7)

pub laid : (take 2 buffer ≡ 18 ∷ 52 ∷ []) × (take 2 (drop 112 buffer) ≡ 18 ∷ 52 ∷ []) × (drop 129 buffer ≡ 7 ∷ 7 ∷ [])
unfolding opened
laid = (refl, refl, refl)

-- "Each call lent the room that is left": an octet short for the second; too short for the first, which leaves it to the second; none; and behind a reply that is
-- written, one that has no room, and a shorter one that has.
pub rooms :
    (ends (at 128 items) ≡ (0, (112, 0)) ∷ (8, (0, 0)) ∷ [])
    × (ends (at 111 items) ≡ (8, (0, 0)) ∷ (0, (17, 17)) ∷ [])
    × (ends (at 0 items) ≡ (8, (0, 0)) ∷ (8, (0, 0)) ∷ [])
    × (ends (at 34 (query ∷ renewal 1201 true 2 ∷ query ∷ [])) ≡ (0, (17, 17)) ∷ (8, (0, 0)) ∷ (0, (17, 17)) ∷ [])
unfolding opened
rooms = (refl, refl, refl, refl)

-- "17 BATCH for more than 64 items or one outside the lent octets, before everything but TABLE; the table's clock stays." None, 64 and 65 items; a message and an
-- offer up to the last octet, and an octet more; a message and an offer of no octets at the end, and behind it; TABLE first.
abbrev empties : ℕ → ℕ → BatchItem
empties from offer = record { time = 1200; good = true; message = record { from = from; size = 0 }; offer = record { from = offer; size = 0 }; fits = false; second = record { from = 0; size = 0 } }

abbrev empty : ℕ → BatchItem
empty from = empties from from

-- and a lent record likewise (02, CR 10)
abbrev lending : ℕ → ℕ → BatchItem
lending from size = record { time = 1200; good = true; message = record { from = 0; size = 0 }; offer = record { from = 0; size = 0 }; fits = true; second = record { from = from; size = size } }

abbrev whole : ℕ → BatchItem
whole size = record { time = 1200; good = true; message = record { from = 2; size = size }; offer = record { from = 0; size = 0 }; fits = false; second = record { from = 0; size = 0 } }

pub refused_whole_lem :
    (at 200 [] ≡ record { number = 0; table = table; outcomes = [] })
    × (length (at 200 (replicate 64 (empty 0))).outcomes ≡ 64)
    × (at 200 (replicate 65 (empty 0)) ≡ refused_whole table 17)
    × (at 200 (whole (both + 1) ∷ []) ≡ refused_whole table 17)
    × ((at 200 (whole both ∷ [])).number ≡ 0)
    × (at 200 (query ∷ renewal 1200 true 3 ∷ []) ≡ refused_whole table 17)
    × (ends (at 200 (empty (both + 2) ∷ [])) ≡ (4, (0, 0)) ∷ [])
    × (at 200 (empties (both + 3) 0 ∷ []) ≡ refused_whole table 17)
    × (at 200 (empties 0 (both + 3) ∷ []) ≡ refused_whole table 17)
    × (at 200 (lending (both + 3) 0 ∷ []) ≡ refused_whole table 17)
    × (at 200 (lending both 3 ∷ []) ≡ refused_whole table 17)
    × ((at 200 (lending both 2 ∷ [])).number ≡ 0)
    × (batch_on broken octets (replicate 65 (empty 0)) 200 ≡ refused_whole broken 1)
unfolding opened
refused_whole_lem = (refl, refl, refl, refl, refl, refl, refl, refl, refl, refl, refl, refl, refl)

-- All else refuses an item alone: SIZE of 65,536 octets, OFFER of 1,025.
abbrev long : ℕ → ℕ → BatchItem
long size offer = record { time = 1200; good = true; message = record { from = 0; size = size }; offer = record { from = 0; size = offer }; fits = false; second = record { from = 0; size = 0 } }

pub refused_alone :
    (ends (batch_on table (replicate 65536 0) (long 65536 0 ∷ []) 200) ≡ (4, (0, 0)) ∷ [])
    × (ends (batch_on table (renews ++ replicate 1025 0) (long (length renews) 1025 ∷ []) 200) ≡ (5, (0, 0)) ∷ [])
unfolding opened
refused_alone = (refl, refl)

-- "In demand 3 a batch is its items, each a message call at its own time and lent the whole buffer; a batch refused whole is a call of no pair": the calls of a
-- run, on a table that keeps the rules and on one that does not; its final table.
abbrev jobs : List Job
jobs = call (issue 1100 1 256) ∷ batch octets items 300 ∷ batch octets (replicate 65 query) 300 ∷ []

pub its_calls :
    (all_calls true jobs ≡ issue 1100 1 256 ∷ message (unkeyed 1200 true (1 ∷ 2 ∷ [])) 300 renews ∷ message (unkeyed 1201 true []) 300 asks ∷ [])
    × (all_calls false jobs ≡ issue 1100 1 256 ∷ [])
    × (map (λ x. x.1.number) (job_log table jobs) ≡ 0 ∷ 0 ∷ 17 ∷ [])
    × ((final_of table jobs).clock ≡ 1201)
    × (length (each_replies table (calls_of true (batch octets items 65535))) ≡ 129)
unfolding opened
its_calls = (refl, refl, refl, refl, refl)
