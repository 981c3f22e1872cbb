-- The promises are kept. Assumes nothing.
use mathlib.Core.Path.{◌≡◌, refl, sym, ap, ◌∙◌}
use mathlib.Core.List.{List, [], ◌∷◌, map}
use Prim.Native.Nat.{ℕ}
use native.Mathlib.Omega.{arith}
use Rattle.model.specs.declared.Keys.{Keys}
use Rattle.model.specs.declared.Keys.TheVariants.{Empty, Adopted, Renewing}
use Rattle.model.specs.declared.Scheme.TheVariants.{DiffieHellman, ServerAssignment, ResolverAssignment}
use Rattle.model.specs.Messages.{read_message}
use Rattle.model.specs.Tables.{Table, pair_at, table_rules}
use Rattle.model.specs.Calls.{Outcome, Call, issue, revoke}
use Rattle.model.specs.Runs.{final, log, NeverBack, frame_of, own_log, own}
use Rattle.model.specs.Batches.{Job, batch, calls_of, all_calls, Roomy, done_job, job_log, inside, batch_ok, given_by, item_call, refused_whole, in_turn, batch_on}
use Rattle.model.proofs.Running.{after}
use Rattle.model.proofs.Day.{opening, day}
use Rattle.model.proofs.Keying.{good}
use Rattle.guarantees.specs.Isolation.{AtAnyTimes, InAnyOrder}
use Rattle.guarantees.specs.Batches.{ends_of, outcomes_in, AtAnyRoom}
use Rattle.guarantees.specs.Sample.{table, calls, unknown, lent, items}
use Rattle.guarantees.specs.Promises.{numbers, Grants, Promises}
use Rattle.guarantees.proofs.Orders.{never_back, swapped}
use Rattle.guarantees.proofs.Refusals.{demand1}
use Rattle.guarantees.proofs.Freshness.{demand2}
use Rattle.guarantees.proofs.GoneRuns.{demand8}
use Rattle.guarantees.proofs.GoneSamples.{read_as, each_way, load_left_out, new_left_out}
use Rattle.guarantees.proofs.Listings.{demand7}
use Rattle.guarantees.proofs.Comparing.{demand12}
use Rattle.guarantees.proofs.Runs.{demand3}
use Rattle.guarantees.proofs.Batches.{batches_safe, demand3_batches}

times : NeverBack calls
unfolding calls after
times = never_back calls refl

-- ── Times that go back ──────────────────────────────────────────────────────────────────────────────────────────────

-- Pair 1 is issued a key at 1300, and then pair 2 is revoked at 1200: CLOCK. Alone it is done.
abbrev back : List Call
back = issue 1300 1 256 ∷ revoke 1200 2 ∷ []

abbrev first : List ℕ → ℕ
first [] = 0
first (n ∷ ns) = n

refused_there : first (numbers (own_log (frame_of table) 1 (log table back))) ≡ 3
unfolding table after
refused_there = refl

done_alone : first (numbers (log table (own (frame_of table) 1 back))) ≡ 0
unfolding table after
done_alone = refl

times_needed : ¬ AtAnyTimes
times_needed claim =
    let e : ◌≡◌ {A = ℕ} 3 0 = sym refused_there ∙ ap (λ (l : List (Call × Outcome)). first (numbers l)) ((claim table back).log_alone 1) ∙ done_alone in
    absurd (omega arith)

-- ── A pair's calls in another order ─────────────────────────────────────────────────────────────────────────────────

-- Pair 1's key is revoked and then replaced at 1200, or replaced and then revoked: its partial time is 1600 or 1200.
abbrev partial_of : Keys → ℕ
partial_of Empty = 0
partial_of (Adopted a) = a.partial
partial_of (Renewing a w) = a.partial

abbrev revokes : Call
revokes = revoke 1200 1

abbrev issues : Call
issues = issue 1200 1 256

first_order : partial_of (pair_at (final table (revokes ∷ issues ∷ [])) 0).keys ≡ 1600
unfolding table after
first_order = refl

other_order : partial_of (pair_at (final table (issues ∷ revokes ∷ [])) 0).keys ≡ 1200
unfolding table after
other_order = refl

same_time : NeverBack (revokes ∷ issues ∷ [])
unfolding after
same_time = never_back (revokes ∷ issues ∷ []) refl

same_time_too : NeverBack (issues ∷ revokes ∷ [])
unfolding after
same_time_too = never_back (issues ∷ revokes ∷ []) refl

order_needed : ¬ InAnyOrder
order_needed claim =
    let e : ◌≡◌ {A = ℕ} 1600 1200 =
    sym first_order
    ∙ ap (λ (t : Table). partial_of (pair_at t 0).keys) (claim table (revokes ∷ issues ∷ []) (issues ∷ revokes ∷ []) same_time same_time_too (swapped revokes issues []))
    ∙ other_order
    in
    absurd (omega arith)

-- ── A granted renewal of each scheme ────────────────────────────────────────────────────────────────────────────────

grants_4097 : Grants 4097 DiffieHellman
unfolding opening after read_as
grants_4097 = let w = read_as (read_message (good 4097)) refl in (w.0, record { end = w.1; passes = refl; readings = w.2; owner = refl; decided = refl; finished = refl })

grants_4098 : Grants 4098 ServerAssignment
unfolding opening after read_as
grants_4098 = let w = read_as (read_message (good 4098)) refl in (w.0, record { end = w.1; passes = refl; readings = w.2; owner = refl; decided = refl; finished = refl })

grants_4099 : Grants 4099 ResolverAssignment
unfolding opening after read_as
grants_4099 = let w = read_as (read_message (good 4099)) refl in (w.0, record { end = w.1; passes = refl; readings = w.2; owner = refl; decided = refl; finished = refl })

-- ── Room for one reply alone ────────────────────────────────────────────────────────────────────────────────────────

abbrev jobs : List Job
jobs = batch lent items 128 ∷ []

batch_times : NeverBack (all_calls (table_rules table) jobs)
unfolding table unknown lent items after given_by item_call batch_ok inside calls_of
batch_times = never_back (all_calls (table_rules table) jobs) refl

abbrev exact : List Job
exact = batch lent items 129 ∷ []

exact_times : NeverBack (all_calls (table_rules table) exact)
unfolding table unknown lent items after given_by item_call batch_ok inside calls_of
exact_times = never_back (all_calls (table_rules table) exact) refl

exact_roomy : Roomy table exact
unfolding table unknown lent items after given_by item_call batch_ok inside calls_of
exact_roomy = (omega arith, tt)

abbrev second : List Outcome → ℕ
second [] = 0
second (o ∷ os) = first (map (λ (o : Outcome). o.answer.number) os)

no_room_there : second (outcomes_in (job_log table jobs)) ≡ 8
unfolding table unknown lent items after done_job batch_on in_turn given_by item_call batch_ok inside refused_whole
no_room_there = refl

done_in_the_whole : second (ends_of (log table (all_calls (table_rules table) jobs))) ≡ 0
unfolding table unknown lent items after given_by item_call batch_ok inside calls_of
done_in_the_whole = refl

room_needed : ¬ AtAnyRoom
room_needed claim =
    let e : ◌≡◌ {A = ℕ} 8 0 = sym no_room_there ∙ ap second (claim table jobs batch_times).same_outcomes ∙ done_in_the_whole in
    absurd (omega arith)

-- ── The whole ───────────────────────────────────────────────────────────────────────────────────────────────────────

pub promises : Promises
unfolding table calls unknown lent items after batch_on in_turn given_by item_call batch_ok inside refused_whole
promises = record {
  refusals = demand1;
  names = demand2;
  gone = demand8;
  listings = demand7;
  comparing = demand12;
  isolation = demand3;
  batches_safe = batches_safe;
  batches = demand3_batches;
  day = day;
  sample_times = times;
  sample_numbers = refl;
  sample_owners = refl;
  sample_gone = each_way;
  sample_renewals = (grants_4097, grants_4098, grants_4099);
  needs_times = times_needed;
  needs_order = order_needed;
  needs_no_load = load_left_out;
  needs_no_new = new_left_out;
  sample_batch = refl;
  sample_roomy = exact_roomy;
  sample_batch_times = exact_times;
  sample_room = refl;
  needs_room = room_needed;
}
