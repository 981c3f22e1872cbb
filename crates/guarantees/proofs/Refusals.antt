-- Demand 1, for every call on every table. Assumes nothing.
use mathlib.Core.Path.{◌≡◌, refl, sym, ap, subst, ◌∙◌}
use mathlib.Core.Bool.{Bool, true, false, not, ◌&&◌, ◌||◌, false≢true}
use Rattle.std.specs.Prelude.{Option, None, Some}
use Rattle.std.proofs.lemmas.Option.{same_Some, none-some}
use mathlib.Core.List.{List, [], ◌∷◌}
use Prim.Native.Nat.{ℕ, ◌≤◌}
use native.Mathlib.Omega.{arith}
use lib.Dec.{leb, ltb, eqb}
use lib.ListN.{length}
use borrow.Author.Tests.{leb-true}
use Rattle.model.specs.Names.{algorithm_numbered}
use Rattle.model.specs.Messages.{Message, read_message}
use Rattle.model.specs.Tsig.{Signature, unsigned, misplaced, well_placed, signature}
use Rattle.model.specs.declared.Algorithm.{Algorithm}
use Rattle.model.specs.declared.Scheme.TheVariants.{DiffieHellman, ServerAssignment, ResolverAssignment}
use Rattle.model.specs.declared.Decision.{Decision}
use Rattle.model.specs.declared.Decision.TheVariants.{Unsigned, Refused, Passed, Failed, Renews, Adopts, Readopts, Deletes, Withdraws}
use Rattle.model.specs.declared.Key.{Key}
use Rattle.model.specs.declared.Answer.{Answer}
use Rattle.model.specs.Octets.{put, Reading, stops, reads}
use Rattle.model.specs.Tables.{Table, no_pair, row_at, suffix_at, pair_at, with_clock, names_of, row_named, is_none, suffix_ok, term_ok, table_rules}
use Rattle.model.specs.Judging.{Holder, nobody, held_number, held_pair, signer_of, Given, judge}
use Rattle.model.specs.Checks.{check, check_place}
use Rattle.model.specs.Calls.{refusal_at, breaks, DONE, TABLE, TIME, CLOCK, SIZE, OFFER, FORMAT, NOTQUERY, ROOM, NOPAIR, SPENT, NAME, TERM, TWIN, FULL, Outcome, Result, refusal, done, unchanged, time_fits, time_goes_on, time_gate, gate, clock_at, new_table, with_row, first_serial, enrolled, enrol_passed, enrol_on, without_row, number_owner, closed, close_passed, close_on, Step, refuses, leaves, size_ok, found, looked_up, look_step, offer_ok, room_for, reply_to, replied, answered, message_step, Call, look, message, time_of, owner_of, step_of, holder_at, served_by, called, look_on, message_on, buffer_after, KEYREC}
use Rattle.model.specs.Runs.{Operation, enrol, close, call, operated}
use Rattle.model.proofs.Buffers.{put_length}
use Rattle.model.proofs.CallLaws.{holder_by, refused_first, passes_first, leaves_it}
use Rattle.guarantees.specs.Refusals.{is_one, own_refusals, first_refusals, refusals_of, operation_time, moved_by, Safe, WrongRecord, Demand1}
use Rattle.model.proofs.Tests.{left, by_check, by_some, by_place, by_known}
use Rattle.model.proofs.Decisions.{Allows, allows}
use Rattle.guarantees.proofs.OneCall.{clock_at_lem, sets_clock, clock_by, served_is}
use Rattle.guarantees.proofs.Moves.{Ends, refused, finished, ends}
use Rattle.model.specs.Tkey.{is_key_record}
use Rattle.model.specs.Replies.{lends, second_ok}

-- ── Lists of numbers ────────────────────────────────────────────────────────────────────────────────────────────────

or_right : (a b : Bool) → b ≡ true → (a || b) ≡ true
or_right true b e = refl
or_right false b e = e

-- A number of a call's own list is one of its refusals.
own_listed : (n : ℕ) (τ : Option ℕ) (own : List ℕ) → is_one n own ≡ true → is_one n (DONE ∷ first_refusals τ own) ≡ true
own_listed n None own e = or_right (eqb n DONE) _ (or_right (eqb n TABLE) _ e)
own_listed n (Some τ) own e = or_right (eqb n DONE) _ (or_right (eqb n TABLE) _ (or_right (eqb n TIME) _ (or_right (eqb n CLOCK) _ e)))

-- So is a number of the gate.
refused_by : (P : ℕ → Type 0) (n : ℕ) (b : Bool) (next : Option ℕ) → P n → ((k : ℕ) → next ≡ Some k → P k) → (k : ℕ) → check Some n b next ≡ Some k → P k
refused_by P n true next p f k e = f k e
refused_by P n false next p f k e = subst P (same_Some n k e) p

gate_listed : (t : Table) (τ : Option ℕ) (own : List ℕ) (n : ℕ) → gate t τ ≡ Some n → is_one n (DONE ∷ first_refusals τ own) ≡ true
unfolding gate DONE TABLE TIME CLOCK
gate_listed t None own n e =
    refused_by (λ k. is_one k (DONE ∷ TABLE ∷ own) ≡ true) TABLE (table_rules t) None refl (λ k q. absurd (none-some k q)) n e
gate_listed t (Some τ) own n e =
    refused_by P TABLE (table_rules t) (time_gate (Some τ) t.clock) refl
    (λ k q. refused_by P TIME (time_fits τ) (check Some CLOCK (time_goes_on t.clock τ) None) refl
    (λ k q. refused_by P CLOCK (time_goes_on t.clock τ) None refl (λ k q. absurd (none-some k q)) k q) k q) n e
  where
    P : ℕ → Type 0
    P k = is_one k (DONE ∷ TABLE ∷ TIME ∷ CLOCK ∷ own) ≡ true

-- The gate's refusals are the first three.
first_three : (t : Table) (τ : Option ℕ) (n : ℕ) → gate t τ ≡ Some n → n ≤ 3
unfolding gate TABLE TIME CLOCK
first_three t None n e = refused_by (λ k. k ≤ 3) TABLE (table_rules t) None (omega arith) (λ k q. absurd (none-some k q)) n e
first_three t (Some τ) n e =
    refused_by P TABLE (table_rules t) (time_gate (Some τ) t.clock) (omega arith)
    (λ k q. refused_by P TIME (time_fits τ) (check Some CLOCK (time_goes_on t.clock τ) None) (omega arith)
    (λ k q. refused_by P CLOCK (time_goes_on t.clock τ) None (omega arith) (λ k q. absurd (none-some k q)) k q) k q) n e
  where
    P : ℕ → Type 0
    P k = k ≤ 3

-- ── Refused and done ────────────────────────────────────────────────────────────────────────────────────────────────

same_clock : (t : Table) → with_clock t t.clock ≡ t
unfolding with_clock
same_clock t = refl

clock_only : (t : Table) (τ : Option ℕ) → with_clock t (clock_at t τ).clock ≡ clock_at t τ
unfolding with_clock
clock_only t None = refl
clock_only t (Some τ) = refl

-- What the claims say of a result r of the table t.
module _ (t : Table) (time : Option ℕ) (own : List ℕ) where
  pub record SafeBy (r : Result) : Type 0 where
    pub listed_by : is_one r.outcome.answer.number (DONE ∷ first_refusals time own) ≡ true
    pub moves_by_lem : r.table.clock ≡ moved_by (gate t time) time t.clock
    pub clean_by : ¬ (r.outcome.answer.number ≡ DONE) → r ≡ record { table = with_clock t r.table.clock; outcome = refusal_at r.outcome.answer.number r.outcome.answer.place }
    pub placed_by : ¬ (r.outcome.answer.number ≡ FORMAT) → r.outcome.answer.place ≡ 0

  -- refused at the gate
  refused_first_by : (n : ℕ) → gate t time ≡ Some n → SafeBy (unchanged t n)
  unfolding unchanged refusal refusal_at
  refused_first_by n e = record {
    listed_by = gate_listed t time own n e;
    moves_by_lem = sym (ap (λ (g : Option ℕ). moved_by g time t.clock) e);
    clean_by = λ _. ap (λ (u : Table). unchanged u n) (sym (same_clock t));
    placed_by = λ _. refl;
  }

  clock_then : gate t time ≡ None → (clock_at t time).clock ≡ moved_by (gate t time) time t.clock
  clock_then e = clock_at_lem t time ∙ by_time time ∙ sym (ap (λ (g : Option ℕ). moved_by g time t.clock) e)
    where
      by_time : (τ : Option ℕ) → clock_by τ t.clock ≡ moved_by None τ t.clock
      by_time None = refl
      by_time (Some τ) = refl

  -- refused later
  refused_later_by : (n place : ℕ) → gate t time ≡ None → is_one n own ≡ true → (¬ (n ≡ FORMAT) → place ≡ 0) → SafeBy (record { table = clock_at t time; outcome = refusal_at n place })
  unfolding refusal_at
  refused_later_by n place e l p = record {
    listed_by = own_listed n time own l;
    moves_by_lem = clock_then e;
    clean_by = λ _. ap {B = Result} (λ (u : Table). record { table = u; outcome = refusal_at n place }) (sym (clock_only t time));
    placed_by = p;
  }

  done_by : (r : Result) → r.outcome.answer.number ≡ 0 → r.outcome.answer.place ≡ 0 → r.table.clock ≡ moved_by (gate t time) time t.clock → SafeBy r
  unfolding DONE
  done_by r e z k = record { listed_by = ap (λ (n : ℕ). is_one n (DONE ∷ first_refusals time own)) e; moves_by_lem = k; clean_by = λ n. absurd (n e); placed_by = λ _. z }

-- ── The calls ───────────────────────────────────────────────────────────────────────────────────────────────────────

module _ (t : Table) (c : Call) where
  abbrev By : Result → Type 0
  By r = SafeBy t (time_of c) (own_refusals c) r

  passed_by : gate t (time_of c) ≡ None → (o : Option ℕ) → owner_of (names_of (clock_at t (time_of c))) c ≡ o → Ends (holder_by (clock_at t (time_of c)) o) c (step_of (holder_by (clock_at t (time_of c)) o) c) → By (called t c)
  unfolding unchanged
  passed_by e o w (refused n place l p q) = subst By (sym (passes_first t c e ∙ leaves_it (clock_at t (time_of c)) c o (refusal_at n place) w q)) (refused_later_by t (time_of c) (own_refusals c) n place e l p)
  passed_by e o w (finished z p m) = done_by t (time_of c) (own_refusals c) (called t c) (answers (λ (a : Answer). a.number) o w z) (answers (λ (a : Answer). a.place) o w p) (sets_clock t c e ∙ sym (clock_at_lem t (time_of c)) ∙ clock_then t (time_of c) (own_refusals c) e)
    where
      answers : (f : Answer → ℕ) (o : Option ℕ) → owner_of (names_of (clock_at t (time_of c))) c ≡ o → f (step_of (holder_by (clock_at t (time_of c)) o) c).outcome.answer ≡ 0 → f (called t c).outcome.answer ≡ 0
      answers f None w z = ap (λ (r : Result). f r.outcome.answer) (passes_first t c e ∙ served_is (clock_at t (time_of c)) c ∙ ap (served_by (clock_at t (time_of c)) c) w) ∙ z
      answers f (Some i) w z = ap (λ (r : Result). f r.outcome.answer) (passes_first t c e ∙ served_is (clock_at t (time_of c)) c ∙ ap (served_by (clock_at t (time_of c)) c) w) ∙ z

  called_safe : By (called t c)
  called_safe = go (gate t (time_of c)) refl
    where
      go : (g : Option ℕ) → gate t (time_of c) ≡ g → By (called t c)
      go (Some n) e = subst By (sym (refused_first t c n e)) (refused_first_by t (time_of c) (own_refusals c) n e)
      go None e =
          let o = owner_of (names_of (clock_at t (time_of c))) c in
          passed_by e o refl (ends (holder_by (clock_at t (time_of c)) o) c)

-- Enrolment.
module _ (t : Table) (time : ℕ) (suffix : List ℕ) (lifetime fresh algorithm : ℕ) where
  abbrev enrolRefusals : List ℕ
  enrolRefusals = NAME ∷ TERM ∷ TWIN ∷ FULL ∷ SPENT ∷ []

  abbrev Enrols : Result → Type 0
  Enrols r = SafeBy t (Some time) enrolRefusals r

  enrolled_safe : gate t (Some time) ≡ None → Enrols (enrolled (with_clock t time) suffix lifetime fresh algorithm)
  unfolding enrolled unchanged refusal with_row done DONE NAME TERM TWIN FULL SPENT
  enrolled_safe e =
      by_check Enrols no NAME (refuse NAME refl) (suffix_ok suffix) λ _.
      by_check Enrols no TERM (refuse TERM refl) (term_ok lifetime fresh) λ _.
      by_known Enrols no TERM (refuse TERM refl) (algorithm_numbered algorithm) λ g _.
      by_check Enrols no TWIN (refuse TWIN refl) (is_none (row_named (names_of (with_clock t time)) suffix)) λ _.
      by_check Enrols no FULL (refuse FULL refl) (ltb (length (with_clock t time).rows) 64) λ _.
      by_check Enrols no SPENT (refuse SPENT refl) (ltb (first_serial (with_clock t time)) 0x1_0000_0000) λ _.
      done_by t (Some time) enrolRefusals _ refl refl (clock_then t (Some time) enrolRefusals e)
    where
      no : ℕ → Result
      no n = unchanged (with_clock t time) n

      refuse : (n : ℕ) → is_one n enrolRefusals ≡ true → Enrols (no n)
      refuse n l = refused_later_by t (Some time) enrolRefusals n 0 e l (λ _. refl)

  enrol_safe : Enrols (enrol_on t time suffix lifetime fresh algorithm)
  unfolding enrol_on
  enrol_safe = go (gate t (Some time)) refl
    where
      go : (g : Option ℕ) → gate t (Some time) ≡ g → Enrols (enrol_passed t time suffix lifetime fresh algorithm g)
      go (Some n) e = refused_first_by t (Some time) enrolRefusals n e
      go None e = enrolled_safe e

-- Closing.
module _ (t : Table) (time number : ℕ) where
  abbrev closeRefusals : List ℕ
  closeRefusals = NOPAIR ∷ []

  abbrev Closes : Result → Type 0
  Closes r = SafeBy t (Some time) closeRefusals r

  closed_safe : gate t (Some time) ≡ None → Closes (closed (with_clock t time) number)
  unfolding closed unchanged refusal without_row done DONE NOPAIR
  closed_safe e =
      by_some Closes (unchanged (with_clock t time)) NOPAIR (refused_later_by t (Some time) closeRefusals NOPAIR 0 e refl (λ _. refl))
      (number_owner (names_of (with_clock t time)) number) λ i _.
      done_by t (Some time) closeRefusals _ refl refl (clock_then t (Some time) closeRefusals e)

  close_safe : Closes (close_on t time number)
  unfolding close_on
  close_safe = go (gate t (Some time)) refl
    where
      go : (g : Option ℕ) → gate t (Some time) ≡ g → Closes (close_passed t time number g)
      go (Some n) e = refused_first_by t (Some time) closeRefusals n e
      go None e = closed_safe e

operation_safe : (t : Table) (o : Operation) → Safe t o
unfolding operated refusals_of operation_time
operation_safe t (enrol time suffix lifetime fresh algorithm) =
    let s = enrol_safe t time suffix lifetime fresh algorithm in record { listed = s.listed_by; clock_moves = s.moves_by_lem; refused_clean = s.clean_by; placed = s.placed_by }
operation_safe t (close time number) =
    let s = close_safe t time number in record { listed = s.listed_by; clock_moves = s.moves_by_lem; refused_clean = s.clean_by; placed = s.placed_by }
operation_safe t (call c) = let s = called_safe t c in record { listed = s.listed_by; clock_moves = s.moves_by_lem; refused_clean = s.clean_by; placed = s.placed_by }

-- ── The buffer ──────────────────────────────────────────────────────────────────────────────────────────────────────

abbrev Fits : ℕ → Step → Type 0
Fits room s = length s.outcome.reply ≤ room

step_fits : (h : Holder) (g : Given) (room : ℕ) (octets : List ℕ) → Fits room (message_step h g room octets)
unfolding message_step answered replied room_for leaves refusal refusal_at
step_fits h g room octets =
    by_check F (refuses h) SIZE (none_fits SIZE) (size_ok octets) λ _.
    by_check F (refuses h) OFFER (none_fits OFFER) (offer_ok g.offer) λ _.
    by_place F (breaks h) (λ place. omega arith) (read_message octets) λ m _ _.
    by_check F (refuses h) NOTQUERY (none_fits NOTQUERY) (not m.response) λ _.
    by_check F (refuses h) KEYREC (none_fits KEYREC) (second_ok (judge h g m).decision g.second) λ _.
    by_check F (refuses h) ROOM (none_fits ROOM) (leb (length (reply_to h g m)) room && leb (length (reply_to h g m)) 65535) λ e.
    leb-true _ _ (left (leb (length (reply_to h g m)) room) (leb (length (reply_to h g m)) 65535) e)
  where
    F : Step → Type 0
    F s = Fits room s

    none_fits : (n : ℕ) → F (refuses h n)
    none_fits n = omega arith

pub message_fits : (t : Table) (given : Given) (room : ℕ) (octets : List ℕ) → length (called t (message given room octets)).outcome.reply ≤ room
unfolding unchanged refusal refusal_at step_of time_of
message_fits t given room octets = go (gate t (Some given.now)) refl
  where
    it : Call
    it = message given room octets

    at : Table
    at = with_clock t given.now

    F : Result → Type 0
    F r = length r.outcome.reply ≤ room

    served_fits : (o : Option ℕ) → F (served_by at it o)
    served_fits None = step_fits nobody given room octets
    served_fits (Some i) = step_fits (holder_at at i) given room octets

    go : (g : Option ℕ) → gate t (Some given.now) ≡ g → F (called t it)
    go (Some n) e = subst F (sym (refused_first t it n e)) (omega arith)
    go None e = subst F (sym (passes_first t it e ∙ served_is at it)) (served_fits (owner_of (names_of at) it))

no_reply : (t : Table) (n place : ℕ) (b : List ℕ) → buffer_after (record { table = t; outcome = refusal_at n place }) b ≡ b
unfolding buffer_after refusal_at put
no_reply t n place b = refl

untouched : (t : Table) (c : Call) (buffer : List ℕ) → ¬ ((called t c).outcome.answer.number ≡ DONE) → buffer_after (called t c) buffer ≡ buffer
untouched t c buffer n =
    let e = (called_safe t c).clean_by n in
    ap (λ (r : Result). buffer_after r buffer) e ∙ no_reply _ _ _ buffer

-- ── The place ───────────────────────────────────────────────────────────────────────────────────────────────────────

module _ (octets : List ℕ) where
  abbrev Placed : Outcome → Type 0
  Placed o = o.answer.number ≡ FORMAT → read_message octets ≡ stops o.answer.place

  abbrev P : Step → Type 0
  P s = Placed s.outcome

  -- a message that reads, and one that does not
  reading_placed : (h : Holder) (next : Message → Step) → ((m : Message) → P (next m)) → (r : Reading Message) → read_message octets ≡ r → P (check_place (breaks h) r next)
  unfolding leaves refusal_at
  reading_placed h next f (stops place) e = λ _. e
  reading_placed h next f (reads m end) e = f m

  answered_placed : (h : Holder) (g : Given) (room : ℕ) (m : Message) → P (answered h g room m)
  unfolding answered leaves refusal refusal_at replied DONE FORMAT NOTQUERY KEYREC ROOM
  answered_placed h g room m =
      by_check P (refuses h) NOTQUERY (λ e. absurd (omega (arith, e))) (not m.response) λ _.
      by_check P (refuses h) KEYREC (λ e. absurd (omega (arith, e))) (second_ok (judge h g m).decision g.second) λ _.
      by_check P (refuses h) ROOM (λ e. absurd (omega (arith, e))) (room_for room (reply_to h g m)) λ _ e.
      absurd (omega (arith, e))

  message_placed : (h : Holder) (g : Given) (room : ℕ) → P (message_step h g room octets)
  unfolding message_step leaves refusal refusal_at SIZE OFFER FORMAT
  message_placed h g room =
      by_check P (refuses h) SIZE (λ e. absurd (omega (arith, e))) (size_ok octets) λ _.
      by_check P (refuses h) OFFER (λ e. absurd (omega (arith, e))) (offer_ok g.offer) λ _.
      reading_placed h (answered h g room) (answered_placed h g room) (read_message octets) refl

  found_placed : (n : ℕ) (k : Option Key) → Placed (found n k)
  unfolding done DONE FORMAT
  found_placed n None = λ e. absurd (omega (arith, e))
  found_placed n (Some k) = λ e. absurd (omega (arith, e))

  looked_placed : (h : Holder) (s : Signature) → Placed (looked_up h s)
  unfolding done DONE FORMAT
  looked_placed h unsigned = λ e. absurd (omega (arith, e))
  looked_placed h misplaced = λ e. absurd (omega (arith, e))
  looked_placed h (well_placed s) = found_placed (held_number h) (signer_of h s)

  look_placed : (h : Holder) → P (look_step h octets)
  unfolding look_step leaves refusal refusal_at SIZE FORMAT NOTQUERY
  look_placed h =
      by_check P (refuses h) SIZE (λ e. absurd (omega (arith, e))) (size_ok octets) λ _.
      reading_placed h _ (λ m. by_check P (refuses h) NOTQUERY (λ e. absurd (omega (arith, e))) (not m.response) λ _. looked_placed h (signature m.records)) (read_message octets) refl

  -- the gate gives no FORMAT
  call_placed : (t : Table) (c : Call) → ((h : Holder) → P (step_of h c)) → Placed (called t c).outcome
  unfolding unchanged refusal refusal_at FORMAT
  call_placed t c f = go (gate t (time_of c)) refl
    where
      F : Result → Type 0
      F r = Placed r.outcome

      at : Table
      at = clock_at t (time_of c)

      served_placed : (o : Option ℕ) → F (served_by at c o)
      served_placed None = f nobody
      served_placed (Some i) = f (holder_at at i)

      go : (g : Option ℕ) → gate t (time_of c) ≡ g → F (called t c)
      go (Some n) e = subst F (sym (refused_first t c n e)) (λ q. let f : n ≤ 3 = first_three t (time_of c) n e in absurd (omega (arith, q)))
      go None e = subst F (sym (passes_first t c e ∙ served_is at c)) (served_placed (owner_of (names_of at) c))

-- ── The lent record ─────────────────────────────────────────────────────────────────────────────────────────────────

-- only a 4097 renewal's record is looked at
looked_at : (d : Decision) (second : List ℕ) → second_ok d second ≡ false → (a : Algorithm) × (d ≡ Renews DiffieHellman a) × (is_key_record second ≡ false)
unfolding second_ok lends
looked_at Unsigned second e = absurd (false≢true (sym e))
looked_at (Refused rcode error) second e = absurd (false≢true (sym e))
looked_at (Passed skew) second e = absurd (false≢true (sym e))
looked_at (Failed error) second e = absurd (false≢true (sym e))
looked_at (Renews DiffieHellman a) second e = (a, refl, e)
looked_at (Renews ServerAssignment a) second e = absurd (false≢true (sym e))
looked_at (Renews ResolverAssignment a) second e = absurd (false≢true (sym e))
looked_at Adopts second e = absurd (false≢true (sym e))
looked_at Readopts second e = absurd (false≢true (sym e))
looked_at Deletes second e = absurd (false≢true (sym e))
looked_at Withdraws second e = absurd (false≢true (sym e))

module _ (g : Given) (room : ℕ) (octets : List ℕ) where
  abbrev Lent : Holder → Step → Type 0
  Lent h s = s.outcome.answer.number ≡ KEYREC → WrongRecord h g octets

  room_lent : (h : Holder) (m : Message) → Lent h (check (refuses h) ROOM (room_for room (reply_to h g m)) (replied h g (judge h g m) (reply_to h g m)))
  unfolding leaves refusal refusal_at replied DONE KEYREC ROOM
  room_lent h m = by_check (Lent h) (refuses h) ROOM (λ e. absurd (omega (arith, e))) (room_for room (reply_to h g m)) λ _ e. absurd (omega (arith, e))

  answered_lent : (h : Holder) (m : Message) (end : ℕ) → read_message octets ≡ reads m end → Lent h (answered h g room m)
  unfolding answered leaves refusal refusal_at replied DONE NOTQUERY KEYREC ROOM
  answered_lent h m end is =
      by_check (Lent h) (refuses h) NOTQUERY (λ e. absurd (omega (arith, e))) (not m.response) λ _.
      record_lent (second_ok (judge h g m).decision g.second) refl
    where
      -- what follows NOTQUERY
      record_lent : (b : Bool) → second_ok (judge h g m).decision g.second ≡ b → Lent h (check (refuses h) KEYREC b (check (refuses h) ROOM (room_for room (reply_to h g m)) (replied h g (judge h g m) (reply_to h g m))))
      record_lent true ok = room_lent h m
      record_lent false wrong = λ _.
          let w = looked_at (judge h g m).decision g.second wrong in
          record { asked = m; end = end; readings = is; algorithm = w.0; decided = w.1; no_record = w.2 }

  message_lent : (h : Holder) → Lent h (message_step h g room octets)
  unfolding message_step leaves refusal refusal_at SIZE OFFER FORMAT KEYREC
  message_lent h =
      by_check (Lent h) (refuses h) SIZE (λ e. absurd (omega (arith, e))) (size_ok octets) λ _.
      by_check (Lent h) (refuses h) OFFER (λ e. absurd (omega (arith, e))) (offer_ok g.offer) λ _.
      by_place (Lent h) (breaks h) (λ place e. absurd (omega (arith, e))) (read_message octets) (answered_lent h)

  -- nobody is granted a renewal
  nobody_renews : WrongRecord nobody g octets → ⊥
  unfolding held_pair no_pair
  nobody_renews w =
      let a = subst (Allows g w.asked no_pair) w.decided (allows nobody g w.asked) in
      none-some a.allowed.signer a.allowed.is_signer

  abbrev Found : Table → Result → Type 0
  Found t r = r.outcome.answer.number ≡ KEYREC → (i : ℕ) × (owner_of (names_of t) (message g room octets) ≡ Some i) × WrongRecord (holder_at t i) g octets

  served_lent : (t : Table) (o : Option ℕ) → owner_of (names_of t) (message g room octets) ≡ o → Found t (served_by t (message g room octets) o)
  unfolding step_of
  served_lent t None is = λ e. absurd (nobody_renews (message_lent nobody e))
  served_lent t (Some i) is = λ e. (i, is, message_lent (holder_at t i) e)

  -- the clock is no part of it
  lent_of : (t : Table) → Found t (called t (message g room octets))
  unfolding unchanged refusal refusal_at KEYREC with_clock names_of holder_at suffix_at pair_at row_at time_of
  lent_of t = go (gate t (Some g.now)) refl
    where
      it : Call
      it = message g room octets

      at : Table
      at = with_clock t g.now

      go : (o : Option ℕ) → gate t (Some g.now) ≡ o → Found t (called t it)
      go (Some n) e = subst (Found t) (sym (refused_first t it n e)) (λ q. let f : n ≤ 3 = first_three t (Some g.now) n e in absurd (omega (arith, q)))
      go None e = subst (Found t) (sym (passes_first t it e ∙ served_is at it)) (served_lent at (owner_of (names_of at) it) refl)

pub demand1 : Demand1
unfolding new_table message_on look_on step_of buffer_after
demand1 = record {
  every_call = operation_safe;
  new_done = λ t time e. rw e refl;
  new_refused = λ t time e. rw e refl;
  buffer_length = λ t g octets buffer. put_length _ buffer (message_fits t g (length buffer) octets);
  buffer_untouched = λ t g octets buffer n. untouched t (message g (length buffer) octets) buffer n;
  message_place = λ t g octets room. call_placed octets t (message g room octets) (λ h. message_placed octets h g room);
  look_place = λ t octets. call_placed octets t (look octets) (look_placed octets);
  keyrec_for = λ t g octets room. lent_of g room octets t;
}
