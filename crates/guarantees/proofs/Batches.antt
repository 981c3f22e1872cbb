-- Batches in demand 3: where the buffer holds all replies together, the room that is left decides nothing. Assumes nothing.
use mathlib.Core.Path.{◌≡◌, refl, sym, ap, ap₂, ◌∙◌}
use mathlib.Core.Bool.{Bool, true, false, not}
use Rattle.std.specs.Prelude.{Option, None, Some}
use mathlib.Core.List.{List, [], ◌∷◌, ◌++◌, map}
use Prim.Native.Nat.{ℕ, suc, ◌-◌, ◌≤◌}
use native.Mathlib.Omega.{arith}
use lib.Dec.{leb}
use lib.ListN.{length, length-append}
use borrow.Author.Tests.{le-leb}
use Rattle.model.specs.declared.BatchItem.{BatchItem}
use Rattle.model.specs.Octets.{Reading, stops, reads}
use Rattle.model.specs.Messages.{Message, read_message}
use Rattle.model.specs.Tables.{Table, with_clock, with_pair, names_of, table_rules}
use Rattle.model.specs.Checks.{check, check_place}
use Rattle.model.specs.Judging.{Holder, nobody, Given, judge}
use Rattle.model.specs.Replies.{second_ok}
use Rattle.model.specs.Calls.{DONE, TABLE, SIZE, OFFER, NOTQUERY, ROOM, KEYREC, Outcome, Result, Step, refuses, breaks, gate, size_ok, offer_ok, room_for, reply_to, replied, answered, message_step, Call, message, time_of, owner_of, octets_owner, step_of, holder_at, served_by, served, passed, called}
use Rattle.model.specs.Runs.{final, log, Frame, frame_of}
use Rattle.model.specs.Batches.{BATCH, batch_ok, given_by, item_call, Batched, refused_whole, behind, in_turn, batch_on, lent_calls, made_calls, replies_of, Job, call, batch, item_calls, calls_of, all_calls, done_job, final_of, job_log, each_replies, Roomy}
use Rattle.model.proofs.Tests.{and_false}
use Rattle.guarantees.specs.Refusals.{is_one}
use Rattle.guarantees.specs.Batches.{ends_of, BatchSafe, BatchesSafe, outcomes_in, Demand3Batches}
use Rattle.guarantees.proofs.Refusals.{message_fits}
use Rattle.guarantees.proofs.Runs.{frame_final, demand3}

-- ── One message call, by its room ───────────────────────────────────────────────────────────────────────────────────

-- A room that holds the reply which 65,535 octets would get does as 65,535 does.
module _ (h : Holder) (g : Given) (room : ℕ) where
  by_room : (x : List ℕ) (next : Step) → next.outcome.reply ≡ x → (b : Bool) → leb (length x) 65535 ≡ b
      → length (check (refuses h) ROOM (room_for 65535 x) next).outcome.reply ≤ room
      → check (refuses h) ROOM (room_for room x) next ≡ check (refuses h) ROOM (room_for 65535 x) next
  unfolding room_for
  by_room x next i true e k =
      let f : length next.outcome.reply ≤ room = rw e at k in
      let s : length x ≤ room = rw i at f in
      rw (le-leb (length x) room s, e) refl
  by_room x next i false e k = rw (and_false (leb (length x) room) e, e) refl

  by_lent : (m : Message) (b : Bool)
      → length (check (refuses h) KEYREC b (check (refuses h) ROOM (room_for 65535 (reply_to h g m)) (replied h g (judge h g m) (reply_to h g m)))).outcome.reply ≤ room
      → check (refuses h) KEYREC b (check (refuses h) ROOM (room_for room (reply_to h g m)) (replied h g (judge h g m) (reply_to h g m)))
      ≡ check (refuses h) KEYREC b (check (refuses h) ROOM (room_for 65535 (reply_to h g m)) (replied h g (judge h g m) (reply_to h g m)))
  unfolding replied
  by_lent m true k = by_room (reply_to h g m) (replied h g (judge h g m) (reply_to h g m)) refl (leb (length (reply_to h g m)) 65535) refl k
  by_lent m false k = refl

  abbrev lently : Message → ℕ → Step
  lently m r = check (refuses h) KEYREC (second_ok (judge h g m).decision g.second) (check (refuses h) ROOM (room_for r (reply_to h g m)) (replied h g (judge h g m) (reply_to h g m)))

  by_query : (m : Message) (b : Bool)
      → length (check (refuses h) NOTQUERY b (lently m 65535)).outcome.reply ≤ room
      → check (refuses h) NOTQUERY b (lently m room) ≡ check (refuses h) NOTQUERY b (lently m 65535)
  by_query m true k = by_lent m (second_ok (judge h g m).decision g.second) k
  by_query m false k = refl

  by_read : (r : Reading Message) → length (check_place (breaks h) r (answered h g 65535)).outcome.reply ≤ room
      → check_place (breaks h) r (answered h g room) ≡ check_place (breaks h) r (answered h g 65535)
  unfolding answered
  by_read (stops place) k = refl
  by_read (reads m next) k = by_query m (not m.response) k

  by_tests : (octets : List ℕ) (a b : Bool)
      → length (check (refuses h) SIZE a (check (refuses h) OFFER b (check_place (breaks h) (read_message octets) (answered h g 65535)))).outcome.reply ≤ room
      → check (refuses h) SIZE a (check (refuses h) OFFER b (check_place (breaks h) (read_message octets) (answered h g room)))
      ≡ check (refuses h) SIZE a (check (refuses h) OFFER b (check_place (breaks h) (read_message octets) (answered h g 65535)))
  by_tests octets true true k = by_read (read_message octets) k
  by_tests octets true false k = refl
  by_tests octets false b k = refl

  step_room : (octets : List ℕ) → length (message_step h g 65535 octets).outcome.reply ≤ room → message_step h g room octets ≡ message_step h g 65535 octets
  unfolding message_step
  step_room octets k = by_tests octets (size_ok octets) (offer_ok g.offer) k

module _ (g : Given) (octets : List ℕ) (room : ℕ) where
  abbrev lent : ℕ → Call
  lent r = message g r octets

  served_room : (u : Table) (o : Option ℕ) → length (served_by u (lent 65535) o).outcome.reply ≤ room → served_by u (lent room) o ≡ served_by u (lent 65535) o
  unfolding step_of
  served_room u None k = ap (λ (x : Step). record { table = u; outcome = x.outcome }) (step_room nobody g room octets k)
  served_room u (Some i) k =
      ap (λ (x : Step). record { table = with_pair u i x.pair; outcome = x.outcome })
      (step_room (holder_at u i) g room octets k)

  passed_room : (t : Table) (o : Option ℕ) → length (passed t (lent 65535) o).outcome.reply ≤ room → passed t (lent room) o ≡ passed t (lent 65535) o
  unfolding served time_of owner_of
  passed_room t (Some n) k = refl
  passed_room t None k = served_room (with_clock t g.now) (octets_owner (names_of (with_clock t g.now)) octets) k

  called_room : (t : Table) → length (called t (lent 65535)).outcome.reply ≤ room → called t (lent room) ≡ called t (lent 65535)
  unfolding called time_of
  called_room t k = passed_room t (gate t (Some g.now)) k

item_room : (octets : List ℕ) (t : Table) (room : ℕ) (x : BatchItem) → length (called t (item_call octets 65535 x)).outcome.reply ≤ room
    → called t (item_call octets room x) ≡ called t (item_call octets 65535 x)
unfolding item_call
item_room octets t room x k = called_room (given_by octets x) _ room t k

-- ── A batch is its items ────────────────────────────────────────────────────────────────────────────────────────────

-- In the room r that is left of the whole: the table that the items leave, and what each ends with.
in_items : (octets : List ℕ) (whole : ℕ) (t : Table) (r : ℕ) (xs : List BatchItem) → length (each_replies t (item_calls octets 65535 xs)) ≤ r → r ≤ whole
    → ((in_turn octets t r xs).table ≡ final t (item_calls octets whole xs)) × ((in_turn octets t r xs).outcomes ≡ ends_of (log t (item_calls octets whole xs)))
unfolding in_turn
in_items octets whole t r [] k w = (refl, refl)
in_items octets whole t r (x ∷ xs) k w =
    let c = item_call octets 65535 x in
    let l = length-append (called t c).outcome.reply (each_replies (called t c).table (item_calls octets 65535 xs)) in
    let e = item_room octets t r x (omega arith) in
    let f = item_room octets t whole x (omega arith) in
    let rest = in_items octets whole (called t c).table (r - length (called t c).outcome.reply) xs (omega arith) (omega arith) in
    let after : Result → Batched = λ q. behind q.outcome (in_turn octets q.table (r - length q.outcome.reply) xs) in
    let cs = item_calls octets whole xs in (
      ap (λ (q : Result). (after q).table) e ∙ rest.0 ∙ sym (ap (λ (q : Result). final q.table cs) f),
      ap (λ (q : Result). (after q).outcomes) e
          ∙ ap (λ (os : List Outcome). (called t c).outcome ∷ os) rest.1
          ∙ sym (ap (λ (q : Result). q.outcome ∷ ends_of (log q.table cs)) f),
    )

turn_done : (octets : List ℕ) (t : Table) (r : ℕ) (xs : List BatchItem) → (in_turn octets t r xs).number ≡ 0
unfolding in_turn DONE
turn_done octets t r [] = refl
turn_done octets t r (x ∷ xs) = turn_done octets (called t (item_call octets r x)).table _ xs

-- ── One batch ───────────────────────────────────────────────────────────────────────────────────────────────────────

turn_leaves : (octets : List ℕ) (t : Table) (room : ℕ) (xs : List BatchItem) → (in_turn octets t room xs).table ≡ final t (lent_calls octets t room xs)
unfolding in_turn
turn_leaves octets t room [] = refl
turn_leaves octets t room (x ∷ xs) = turn_leaves octets (called t (item_call octets room x)).table _ xs

turn_ends : (octets : List ℕ) (t : Table) (room : ℕ) (xs : List BatchItem) → (in_turn octets t room xs).outcomes ≡ ends_of (log t (lent_calls octets t room xs))
unfolding in_turn
turn_ends octets t room [] = refl
turn_ends octets t room (x ∷ xs) = ap (λ (os : List Outcome). (called t (item_call octets room x)).outcome ∷ os) (turn_ends octets (called t (item_call octets room x)).table _ xs)

turn_each : (octets : List ℕ) (t : Table) (room : ℕ) (xs : List BatchItem) → length (in_turn octets t room xs).outcomes ≡ length xs
unfolding in_turn
turn_each octets t room [] = refl
turn_each octets t room (x ∷ xs) = ap suc (turn_each octets (called t (item_call octets room x)).table _ xs)

item_fits : (octets : List ℕ) (t : Table) (room : ℕ) (x : BatchItem) → length (called t (item_call octets room x)).outcome.reply ≤ room
unfolding item_call
item_fits octets t room x = message_fits t (given_by octets x) room _

turn_fits : (octets : List ℕ) (t : Table) (room : ℕ) (xs : List BatchItem) → length (replies_of (in_turn octets t room xs).outcomes) ≤ room
unfolding in_turn replies_of
turn_fits octets t room [] = omega arith
turn_fits octets t room (x ∷ xs) =
    let r = called t (item_call octets room x) in
    let rest = turn_fits octets r.table (room - length r.outcome.reply) xs in
    let l = length-append r.outcome.reply (replies_of (in_turn octets r.table (room - length r.outcome.reply) xs).outcomes) in
    omega (arith, l, rest, item_fits octets t room x)

pub batches_safe : BatchesSafe
unfolding batch_on made_calls refused_whole replies_of DONE TABLE BATCH
batches_safe t octets xs room = go (table_rules t) (batch_ok octets xs) refl refl
  where
    refused : (n : ℕ) → made_calls t octets xs room ≡ [] → batch_on t octets xs room ≡ refused_whole t n → is_one n (DONE ∷ TABLE ∷ BATCH ∷ []) ≡ true → ¬ (n ≡ DONE) → BatchSafe t octets xs room
    refused n c is one z =
        let number : (batch_on t octets xs room).number ≡ n = ap (λ (r : Batched). r.number) is in
        record {
          listed = rw number one;
          refused_clean = λ _. is ∙ ap (refused_whole t) (sym number);
          each = λ y. absurd (z (sym number ∙ y));
          fits = rw is (omega arith);
          leaves = ap (λ (r : Batched). r.table) is ∙ sym (ap (final t) c);
          ends = ap (λ (r : Batched). r.outcomes) is ∙ sym (ap (λ (cs : List Call). ends_of (log t cs)) c);
        }

    go : (b o : Bool) → table_rules t ≡ b → batch_ok octets xs ≡ o → BatchSafe t octets xs room
    go false o e f = refused TABLE (rw e refl) (rw e refl) refl (λ z. omega (arith, z))
    go true false e f = refused BATCH (rw (e, f) refl) (rw (e, f) refl) refl (λ z. omega (arith, z))
    go true true e f =
        let n = turn_done octets t room xs in
        record {
          listed = rw (e, f, n) refl;
          refused_clean = λ z. absurd (z (rw (e, f) n));
          each = λ _. rw (e, f) (turn_each octets t room xs);
          fits = rw (e, f) (turn_fits octets t room xs);
          leaves = rw (e, f) (turn_leaves octets t room xs);
          ends = rw (e, f) (turn_ends octets t room xs);
        }

-- ── A run ───────────────────────────────────────────────────────────────────────────────────────────────────────────

final_on : (t : Table) (cs ds : List Call) → final t (cs ++ ds) ≡ final (final t cs) ds
final_on t [] ds = refl
final_on t (c ∷ cs) ds = final_on (called t c).table cs ds

ends_on : (t : Table) (cs ds : List Call) → ends_of (log t (cs ++ ds)) ≡ ends_of (log t cs) ++ ends_of (log (final t cs) ds)
ends_on t [] ds = refl
ends_on t (c ∷ cs) ds = ap (λ (os : List Outcome). (called t c).outcome ∷ os) (ends_on (called t c).table cs ds)

-- A run's table keeps the rules where the table that it starts from does.
rules_final : (t : Table) (cs : List Call) → table_rules (final t cs) ≡ table_rules t
unfolding frame_of
rules_final t cs = ap (λ (f : Frame). f.sound) (frame_final t cs)

-- One job, at a table that keeps the rules or not: it is its calls.
pub record IsCalls (t : Table) (b : Bool) (j : Job) : Type 0 where
  pub leaves_table : (done_job t j).table ≡ final t (calls_of b j)
  pub ends_so : (done_job t j).outcomes ≡ ends_of (log t (calls_of b j))

one_job : (t : Table) (j : Job) (b : Bool) → table_rules t ≡ b → Roomy t (j ∷ []) → IsCalls t b j
unfolding done_job calls_of batch_on refused_whole
one_job t (call c) b e k = record { leaves_table = refl; ends_so = refl }
one_job t (batch octets x room) b e k = go b (batch_ok octets x) e refl
  where
    go : (b o : Bool) → table_rules t ≡ b → batch_ok octets x ≡ o → IsCalls t b (batch octets x room)
    go false o e f = record { leaves_table = rw e refl; ends_so = rw e refl }
    go true false e f = record { leaves_table = rw (e, f) refl; ends_so = rw (e, f) refl }
    go true true e f =
        let all : length (each_replies t (item_calls octets 65535 x)) ≤ room = rw (e, f) at k.0 in
        let i = in_items octets room t room x all (omega arith) in
        record { leaves_table = rw (e, f) i.0; ends_so = rw (e, f) i.1 }

-- A job ends with the same number at every table of a run.
same_number : (t u : Table) (j : Job) → table_rules t ≡ table_rules u → (done_job t j).number ≡ (done_job u j).number
unfolding done_job batch_on refused_whole
same_number t u (call c) e = refl
same_number t u (batch octets x room) e = go (table_rules u) (batch_ok octets x) e refl refl
  where
    go : (b o : Bool) → table_rules t ≡ b → table_rules u ≡ b → batch_ok octets x ≡ o → (done_job t (batch octets x room)).number ≡ (done_job u (batch octets x room)).number
    go false o e f i = rw (e, f) refl
    go true false e f i = rw (e, f, i) refl
    go true true e f i = rw (e, f, i) (turn_done octets t room x ∙ sym (turn_done octets u room x))

-- The jobs of a run from the table t, at a later table u of it.
pub record AreCalls (t u : Table) (b : Bool) (js : List Job) : Type 0 where
  pub table : final_of u js ≡ final u (all_calls b js)
  pub outcomes : outcomes_in (job_log u js) ≡ ends_of (log u (all_calls b js))
  pub numbers : map (λ x. x.1.number) (job_log u js) ≡ map (λ j. (done_job t j).number) js

all_jobs : (t u : Table) (b : Bool) (js : List Job) → table_rules t ≡ b → table_rules u ≡ b → Roomy u js → AreCalls t u b js
all_jobs t u b [] e f k = record { table = refl; outcomes = refl; numbers = refl }
all_jobs t u b (j ∷ js) e f k =
    let i = one_job u j b f (k.0, tt) in
    let stays = ap table_rules i.leaves_table ∙ rules_final u (calls_of b j) ∙ f in
    let rest = all_jobs t (done_job u j).table b js e stays k.1 in
    record {
      table = rest.table ∙ ap (λ (v : Table). final v (all_calls b js)) i.leaves_table ∙ sym (final_on u (calls_of b j) (all_calls b js));
      outcomes =
          ap₂ (λ (a c : List Outcome). a ++ c) i.ends_so (rest.outcomes ∙ ap (λ (v : Table). ends_of (log v (all_calls b js))) i.leaves_table)
          ∙ sym (ends_on u (calls_of b j) (all_calls b js));
      numbers = ap₂ (λ (n : ℕ) (ns : List ℕ). n ∷ ns) (same_number u t j (f ∙ sym e)) rest.numbers;
    }

pub demand3_batches : Demand3Batches
demand3_batches t js k n =
    let a = all_jobs t t (table_rules t) js refl refl k in
    record { same_table = a.table; same_outcomes = a.outcomes; same_numbers = a.numbers; apart = demand3 t (all_calls (table_rules t) js) n }
