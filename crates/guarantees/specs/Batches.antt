-- What is promised of batches (02, CR 4): demand 1 of a batch; that it is calls, so that what holds over every run of calls (demands 2 and 8) holds with batches among
-- them; and demand 3. Assumes nothing.
use Rattle.std.specs.Prelude.{ℕ, ◌≤◌, ◌≡◌, true, List, [], ◌∷◌, ◌++◌, map, length}
use Rattle.model.specs.declared.BatchItem.{BatchItem}
use Rattle.model.specs.Tables.{Table, table_rules}
use Rattle.model.specs.Calls.{DONE, TABLE, Outcome, Call}
use Rattle.model.specs.Runs.{final, log, NeverBack}
use Rattle.model.specs.Batches.{BATCH, Batched, refused_whole, batch_on, made_calls, replies_of, Job, all_calls, done_job, final_of, job_log, Roomy}
use Rattle.guarantees.specs.Refusals.{is_one}
use Rattle.guarantees.specs.Isolation.{KeptApart}

-- What the calls of a run end with, in order.
abbrev pub ends_of : List (Call × Outcome) → List Outcome
ends_of l = map (λ x. x.1) l

-- A batch of any items in any octets, lent any room, on any table.
pub record BatchSafe (t : Table) (octets : List ℕ) (xs : List BatchItem) (room : ℕ) : Type 0 where
  -- it ends with DONE, TABLE or BATCH
  pub listed : is_one (batch_on t octets xs room).number (DONE ∷ TABLE ∷ BATCH ∷ []) ≡ true
  -- refused whole, it leaves the table with its clock, and no item has a result or a reply
  pub refused_clean : ¬ ((batch_on t octets xs room).number ≡ DONE) → batch_on t octets xs room ≡ refused_whole t (batch_on t octets xs room).number
  -- done, each item has a result, and the replies fit into the buffer together
  pub each : (batch_on t octets xs room).number ≡ DONE → length (batch_on t octets xs room).outcomes ≡ length xs
  pub fits : length (replies_of (batch_on t octets xs room).outcomes) ≤ room
  -- it is the run of its calls, each lent the room that is left: to each of them, and to the run, apply the promises on calls
  pub leaves : (batch_on t octets xs room).table ≡ final t (made_calls t octets xs room)
  pub ends : (batch_on t octets xs room).outcomes ≡ ends_of (log t (made_calls t octets xs room))

abbrev pub BatchesSafe : Type 0
BatchesSafe = (t : Table) (octets : List ℕ) (xs : List BatchItem) (room : ℕ) → BatchSafe t octets xs room

-- What the calls and items of a run end with, in order.
abbrev pub outcomes_in : List (Job × Batched) → List Outcome
outcomes_in [] = []
outcomes_in ((j, r) ∷ l) = r.outcomes ++ outcomes_in l

-- What is promised of a run of the jobs js from the table t.
pub record JobsApart (t : Table) (js : List Job) : Type 0 where
  -- it leaves the table that its calls leave, a batch being its items, each lent the whole buffer
  pub same_table : final_of t js ≡ final t (all_calls (table_rules t) js)
  -- each call and each item has the result and the reply that it has in that run
  pub same_outcomes : outcomes_in (job_log t js) ≡ ends_of (log t (all_calls (table_rules t) js))
  -- a batch is refused whole, or not, wherever it stands, as if it were the only call
  pub same_numbers : map (λ x. x.1.number) (job_log t js) ≡ map (λ j. (done_job t j).number) js
  -- and that run's pairs are kept apart, in any other order of its calls too
  pub apart : KeptApart t (all_calls (table_rules t) js)

-- One claim about the whole list: every table, and every list of calls and batches, refused ones included, whose times never go back, where each batch's buffer
-- holds its replies together.
abbrev pub Demand3Batches : Type 0
Demand3Batches = (t : Table) (js : List Job) → Roomy t js → NeverBack (all_calls (table_rules t) js) → JobsApart t js

-- What would be claimed without room for all replies together. It does not hold (`Promises`).
abbrev pub AtAnyRoom : Type 0
AtAnyRoom = (t : Table) (js : List Job) → NeverBack (all_calls (table_rules t) js) → JobsApart t js
