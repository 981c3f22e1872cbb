-- Runs of code on a layout of the table. A layout L has a view, the table that it shows. Assumes nothing.
use Rattle.std.specs.Prelude.{ℕ, ◌≡◌, List, [], ◌∷◌}
use Rattle.model.specs.Tables.{Table}
use Rattle.model.specs.declared.BatchItem.{BatchItem}
use Rattle.model.specs.Calls.{DONE, refusal_at, Outcome, Result, new_table}
use Rattle.model.specs.Runs.{Operation, operated}
use Rattle.model.specs.Batches.{Batched, batch_on}
use Rattle.model.specs.Listing.{listing}
use Rattle.model.specs.Loading as model
use Rattle.model.specs.Loading.{Loaded, load_number, load_line, Mended, mend_in, mend_number, mend_line}
use Rattle.loading.specs.Walk.{named_words}
use Rattle.loading.specs.Loads.{table_after, dropped_by, table_mended}

-- What is done: a new table in the place of the one that is there, one that is loaded or mended (02, CR 7), an operation on it, or a batch.
pub data Act : Type 0 where
  new : ℕ → Act
  load : (text : List ℕ) → Act
  mend : (room : ℕ) (text : List ℕ) → Act
  on : Operation → Act
  batch : (octets : List ℕ) (items : List BatchItem) (room : ℕ) → Act

-- What it ends with: a number, and what its calls end with. Of a single call, its number is in its only outcome.
abbrev pub Ended : Type 0
Ended = ℕ × List Outcome

abbrev pub alone : Outcome → Ended
alone o = (DONE, o ∷ [])

abbrev pub single : Result → Batched
single r = record { number = DONE; table = r.table; outcomes = r.outcome ∷ [] }

-- Loading and mending end with a number and a line, which stands where an answer has its place; mending with the dropped lines besides, as its reply.
abbrev pub load_outcome : Loaded → Outcome
load_outcome l = refusal_at (load_number l) (load_line l)

abbrev pub mend_outcome : Mended → Outcome
mend_outcome m = record { answer = (refusal_at (mend_number m) (mend_line m)).answer; reply = named_words (dropped_by m) }

abbrev pub load_result : Table → Loaded → Result
load_result t l = record { table = table_after t l; outcome = load_outcome l }

abbrev pub mend_result : Table → Mended → Result
mend_result t m = record { table = table_mended t m; outcome = mend_outcome m }

unfoldable pub acted : Table → Act → Batched
acted t (new time) = single (new_table t time)
acted t (load text) = single (load_result t (model.load text))
acted t (mend room text) = single (mend_result t (mend_in room text))
acted t (on o) = single (operated t o)
acted t (batch octets xs room) = batch_on t octets xs room

-- What is proved of the code of an act o: on l it leaves l' and ends with x, as the definition does on the table that is shown.
abbrev pub Does : {L : Type 0} → (L → Table) → L → Act → L → Ended → Type 0
Does view l o l' x = acted (view l) o ≡ record { number = x.0; table = view l'; outcomes = x.1 }

-- A run of such code from l: what each act leaves and ends with.
abbrev pub Ran : {L : Type 0} → (L → Table) → L → List Act → List (L × Ended) → Type 0
Ran view l [] [] = Unit {0}
Ran view l [] (e ∷ run) = ⊥
Ran view l (o ∷ os) [] = ⊥
Ran view l (o ∷ os) (e ∷ run) = Does view l o e.0 e.1 × Ran view e.0 os run

-- What is seen of it, act by act: numbers and replies, and the listing afterwards.
abbrev pub seen : {L : Type 0} → (L → Table) → List (L × Ended) → List (Ended × List ℕ)
seen view [] = []
seen view (e ∷ run) = (e.1, listing (view e.0)) ∷ seen view run
