-- Batches of messages: 02, CR 4. What a batch returns, writes and leaves, on every input; and what a run of calls and batches does. Assumes nothing.
use Rattle.std.specs.Prelude.{ℕ, ◌+◌, ◌-◌, ◌≤◌, Bool, true, cond, ◌&&◌, List, [], ◌∷◌, ◌++◌, length, leb}
use Rattle.model.specs.declared.Span.{Span}
use Rattle.model.specs.declared.BatchItem.{BatchItem}
use Rattle.model.specs.Octets.{part, put}
use Rattle.model.specs.Tables.{Table, table_rules}
use Rattle.model.specs.Checks.{check}
use Rattle.model.specs.Judging.{Given}
use Rattle.model.specs.Calls.{DONE, TABLE, Outcome, Call, message, called}

-- "17 BATCH for more than 64 items or one outside the lent octets".
unfoldable pub BATCH : ℕ
BATCH = 17

-- ── Its items ───────────────────────────────────────────────────────────────────────────────────────────────────────

unfoldable pub inside : List ℕ → Span → Bool
inside octets s = leb (s.from + s.size) (length octets)

abbrev pub items_inside : List ℕ → List BatchItem → Bool
items_inside octets [] = true
items_inside octets (x ∷ xs) = ((inside octets x.message && inside octets x.offer) && inside octets x.second) && items_inside octets xs

unfoldable pub batch_ok : List ℕ → List BatchItem → Bool
batch_ok octets xs = leb (length xs) 64 && items_inside octets xs

-- "Each with its time, verdict and offer", and (CR 10) "each item of a batch brings its own" keying verdict and lent record: the message call of an item that is
-- lent so much room.
unfoldable pub given_by : List ℕ → BatchItem → Given
given_by octets x =
    record {
      now = x.time;
      good = x.good;
      offer = part octets x.offer.from x.offer.size;
      fits = x.fits;
      second = part octets x.second.from x.second.size;
    }

unfoldable pub item_call : List ℕ → ℕ → BatchItem → Call
item_call octets room x = message (given_by octets x) room (part octets x.message.from x.message.size)

-- ── The call ────────────────────────────────────────────────────────────────────────────────────────────────────────

-- Its number, the table that it leaves, and what each item ends with, in order; none where the batch is refused whole.
pub record Batched : Type 0 where
  pub number : ℕ
  pub table : Table
  pub outcomes : List Outcome

unfoldable pub refused_whole : Table → ℕ → Batched
refused_whole t n = record { number = n; table = t; outcomes = [] }

abbrev pub behind : Outcome → Batched → Batched
behind o r = record { number = r.number; table = r.table; outcomes = o ∷ r.outcomes }

-- "Results, replies and final table equal calling one by one, each call lent the room that is left."
unfoldable pub in_turn : List ℕ → Table → ℕ → List BatchItem → Batched
in_turn octets t room [] = record { number = DONE; table = t; outcomes = [] }
in_turn octets t room (x ∷ xs) =
    let r = called t (item_call octets room x) in
    behind r.outcome (in_turn octets r.table (room - length r.outcome.reply) xs)

-- "Before everything but TABLE; the table's clock stays."
unfoldable pub batch_on : Table → List ℕ → List BatchItem → ℕ → Batched
batch_on t octets xs room =
    check (refused_whole t) TABLE (table_rules t) (check (refused_whole t) BATCH (batch_ok octets xs) (in_turn octets t room xs))

-- "Calling one by one, each call lent the room that is left": the calls that a batch makes; none where it is refused whole.
abbrev pub lent_calls : List ℕ → Table → ℕ → List BatchItem → List Call
lent_calls octets t room [] = []
lent_calls octets t room (x ∷ xs) =
    let r = called t (item_call octets room x) in
    item_call octets room x ∷ lent_calls octets r.table (room - length r.outcome.reply) xs

unfoldable pub made_calls : Table → List ℕ → List BatchItem → ℕ → List Call
made_calls t octets xs room = cond (table_rules t && batch_ok octets xs) (lent_calls octets t room xs) []

-- "Lay the replies one after another in one buffer."
unfoldable pub replies_of : List Outcome → List ℕ
replies_of [] = []
replies_of (o ∷ os) = o.reply ++ replies_of os

unfoldable pub batch_buffer : Batched → List ℕ → List ℕ
batch_buffer r buffer = put (replies_of r.outcomes) buffer

-- ── Runs with batches (demand 3) ────────────────────────────────────────────────────────────────────────────────────

-- A call, or a batch with the octets and the room lent to it.
pub data Job : Type 0 where
  call : Call → Job
  batch : (octets : List ℕ) (items : List BatchItem) (room : ℕ) → Job

-- "In demand 3 a batch is its items, each a message call at its own time and lent the whole buffer; a batch refused whole is a call of no pair, without a
-- time": where the table that a run starts from keeps the rules or not, the calls that a job is; a batch refused whole changes nothing and is none of them.
abbrev pub item_calls : List ℕ → ℕ → List BatchItem → List Call
item_calls octets room [] = []
item_calls octets room (x ∷ xs) = item_call octets room x ∷ item_calls octets room xs

unfoldable pub calls_of : Bool → Job → List Call
calls_of sound (call c) = c ∷ []
calls_of sound (batch octets xs room) = cond (sound && batch_ok octets xs) (item_calls octets room xs) []

abbrev pub all_calls : Bool → List Job → List Call
all_calls sound [] = []
all_calls sound (j ∷ js) = calls_of sound j ++ all_calls sound js

-- A job on a table: a call's number is in its only outcome.
unfoldable pub done_job : Table → Job → Batched
done_job t (call c) = record { number = DONE; table = (called t c).table; outcomes = (called t c).outcome ∷ [] }
done_job t (batch octets xs room) = batch_on t octets xs room

abbrev pub final_of : Table → List Job → Table
final_of t [] = t
final_of t (j ∷ js) = final_of (done_job t j).table js

-- What each job ends with.
abbrev pub job_log : Table → List Job → List (Job × Batched)
job_log t [] = []
job_log t (j ∷ js) = (j, done_job t j) ∷ job_log (done_job t j).table js

-- "For such a call demand 3 needs a buffer that holds together all replies its items would get one by one, each lent 65,535 octets."
abbrev pub each_replies : Table → List Call → List ℕ
each_replies t [] = []
each_replies t (c ∷ cs) = (called t c).outcome.reply ++ each_replies (called t c).table cs

abbrev pub HoldsAll : Table → Job → Type 0
HoldsAll t (call c) = Unit {0}
HoldsAll t (batch octets xs room) = length (each_replies t (calls_of (table_rules t) (batch octets xs 65535))) ≤ room

abbrev pub Roomy : Table → List Job → Type 0
Roomy t [] = Unit {0}
Roomy t (j ∷ js) = HoldsAll t j × Roomy (done_job t j).table js
