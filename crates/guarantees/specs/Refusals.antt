-- Demand 1: each call ends with an answer or a refusal from the numbered list; a refusal writes no octet of the reply and changes no pair, and the clock
-- moves exactly when the call passed TABLE, TIME and CLOCK. Assumes nothing.
use Rattle.std.specs.Prelude.{◌≡◌, Bool, true, false, ◌||◌, List, [], ◌∷◌, ℕ, eqb, length, Option, None, Some}
use Rattle.model.specs.declared.Algorithm.{Algorithm}
use Rattle.model.specs.declared.Scheme.TheVariants.{DiffieHellman}
use Rattle.model.specs.declared.Decision.TheVariants.{Renews}
use Rattle.model.specs.Octets.{stops, reads}
use Rattle.model.specs.Messages.{Message, read_message}
use Rattle.model.specs.Tkey.{is_key_record}
use Rattle.model.specs.Tables.{Table, with_clock, names_of}
use Rattle.model.specs.Calls.{DONE, TABLE, TIME, CLOCK, SIZE, OFFER, FORMAT, NOTQUERY, ROOM, NOPAIR, NOKEY, SPENT, NAME, TERM, TWIN, FULL, refusal_at, done, unchanged, gate, empty_table, new_table, time_fits, Call, issue, revoke, look, message, time_of, owner_of, holder_at, look_on, message_on, buffer_after, KEYREC}
use Rattle.model.specs.Runs.{Operation, enrol, close, call, operated}
use Rattle.model.specs.Judging.{Holder, Given, judge}

abbrev pub is_one : ℕ → List ℕ → Bool
is_one n [] = false
is_one n (m ∷ ms) = eqb n m || is_one n ms

-- 01, "Numbers a caller sees": "The order is 1, 2, 3, then for a message 4 to 8, for issue 9, 11, 13, for revoke 9, 10, for enrol 12 to 15. Look gives
-- 1, 4, 6 and 7 only." 02, CR 10 puts 19 before a message's 8; CR 9: "1 to 3, then NOPAIR for closing; enrolment is SPENT ..,
-- after FULL".
unfoldable pub own_refusals : Call → List ℕ
own_refusals (issue time number algorithm) = NOPAIR ∷ SPENT ∷ TERM ∷ []
own_refusals (revoke time number) = NOPAIR ∷ NOKEY ∷ []
own_refusals (look octets) = SIZE ∷ FORMAT ∷ NOTQUERY ∷ []
own_refusals (message g room octets) = SIZE ∷ OFFER ∷ FORMAT ∷ NOTQUERY ∷ KEYREC ∷ ROOM ∷ []

abbrev pub first_refusals : Option ℕ → List ℕ → List ℕ
first_refusals None own = TABLE ∷ own
first_refusals (Some time) own = TABLE ∷ TIME ∷ CLOCK ∷ own

unfoldable pub refusals_of : Operation → List ℕ
refusals_of (enrol time suffix lifetime fresh algorithm) = first_refusals (Some time) (NAME ∷ TERM ∷ TWIN ∷ FULL ∷ SPENT ∷ [])
refusals_of (close time number) = first_refusals (Some time) (NOPAIR ∷ [])
refusals_of (call c) = first_refusals (time_of c) (own_refusals c)

unfoldable pub operation_time : Operation → Option ℕ
operation_time (enrol time suffix lifetime fresh algorithm) = Some time
operation_time (close time number) = Some time
operation_time (call c) = time_of c

-- The clock after a call: its time, if it has one and nothing refused it at the gate.
abbrev pub moved_by : Option ℕ → Option ℕ → ℕ → ℕ
moved_by (Some refused) time clock = clock
moved_by None None clock = clock
moved_by None (Some time) clock = time

-- Enrolment, closing, issue, revoke early, look or message, on any table.
pub record Safe (t : Table) (o : Operation) : Type 0 where
  -- it ends with DONE or with a number of its own list
  pub listed : is_one (operated t o).outcome.answer.number (DONE ∷ refusals_of o) ≡ true
  -- done or refused, the clock is its time exactly when it passed the first three checks
  pub clock_moves : (operated t o).table.clock ≡ moved_by (gate t (operation_time o)) (operation_time o) t.clock
  -- where it is refused, the clock is all that may have moved, and its number and the place are all that it returns: no reply, no other number
  pub refused_clean :
      ¬ ((operated t o).outcome.answer.number ≡ DONE)
      → operated t o
      ≡ record { table = with_clock t (operated t o).table.clock; outcome = refusal_at (operated t o).outcome.answer.number (operated t o).outcome.answer.place }
  -- and the place is beside FORMAT alone (02, CR 6)
  pub placed : ¬ ((operated t o).outcome.answer.number ≡ FORMAT) → (operated t o).outcome.answer.place ≡ 0

-- A 4097 renewal that would be granted, and a lent record that is none.
pub record WrongRecord (h : Holder) (g : Given) (octets : List ℕ) : Type 0 where
  pub asked : Message
  pub end : ℕ
  pub readings : read_message octets ≡ reads asked end
  pub algorithm : Algorithm
  pub decided : (judge h g asked).decision ≡ Renews DiffieHellman algorithm
  pub no_record : is_key_record g.second ≡ false

pub record Demand1 : Type 0 where
  pub every_call : (t : Table) (o : Operation) → Safe t o
  -- a new table has no pairs, and is refused only with TIME: then the lent one is left
  pub new_done : (t : Table) (time : ℕ) → time_fits time ≡ true → new_table t time ≡ record { table = empty_table time; outcome = done 0 0 }
  pub new_refused : (t : Table) (time : ℕ) → time_fits time ≡ false → new_table t time ≡ unchanged t TIME
  -- the lent buffer keeps its length, and a refusal leaves every octet of it
  pub buffer_length :
      (t : Table) (g : Given) (octets buffer : List ℕ)
      → length (buffer_after (message_on t g (length buffer) octets) buffer) ≡ length buffer
  pub buffer_untouched :
      (t : Table) (g : Given) (octets buffer : List ℕ)
      → ¬ ((message_on t g (length buffer) octets).outcome.answer.number ≡ DONE)
      → buffer_after (message_on t g (length buffer) octets) buffer ≡ buffer
  -- beside FORMAT, message and look return the place where reading the message first failed (02, CR 6)
  pub message_place :
      (t : Table) (g : Given) (octets : List ℕ) (room : ℕ)
      → (message_on t g room octets).outcome.answer.number ≡ FORMAT
      → read_message octets ≡ stops (message_on t g room octets).outcome.answer.place
  pub look_place :
      (t : Table) (octets : List ℕ)
      → (look_on t octets).outcome.answer.number ≡ FORMAT
      → read_message octets ≡ stops (look_on t octets).outcome.answer.place
  -- KEYREC is for a 4097 renewal of a pair that would be granted, and a lent record that is none; for nothing else (02, CR 10)
  pub keyrec_for :
      (t : Table) (g : Given) (octets : List ℕ) (room : ℕ)
      → (message_on t g room octets).outcome.answer.number ≡ KEYREC
      → (i : ℕ) × (owner_of (names_of t) (message g room octets) ≡ Some i) × WrongRecord (holder_at t i) g octets
