-- What is promised to the user, in one place. The proof is `promises` of proofs/Promises. What ties it to code are the contracts of the calls on a lent table
-- (operator, looking, server, batches, listing, loading): each is an equation with one of these definitions, on the table that the lent words and octets show. Assumes
-- nothing.
use Rattle.std.specs.Prelude.{◌≡◌, true, List, [], ◌∷◌, ◌++◌, map, ℕ, None, Some}
use Rattle.model.specs.declared.Algorithm.TheVariants.{Sha256}
use Rattle.model.specs.declared.Scheme.{Scheme}
use Rattle.model.specs.declared.Scheme.TheVariants.{DiffieHellman, ServerAssignment, ResolverAssignment}
use Rattle.model.specs.declared.Decision.TheVariants.{Renews}
use Rattle.model.specs.Names.{key_name}
use Rattle.model.specs.Messages.{Message}
use Rattle.model.specs.Calls.{Outcome, Call, issue, message}
use Rattle.model.specs.Runs.{Operation, enrol, close, call, log, NeverBack, frame_of, belongs}
use Rattle.model.specs.Tables.{table_rules}
use Rattle.model.specs.Batches.{Batched, batch_on, batch as job, all_calls, Roomy}
use Rattle.guarantees.specs.Refusals.{Demand1}
use Rattle.guarantees.specs.Freshness.{after, Ask, Decides, Demand2}
use Rattle.guarantees.specs.Gone.{on, batch, operations_of, SignedWith, Gone, new_at, EvenLoaded, EvenNew, Demand8}
use Rattle.guarantees.specs.Listings.{Demand7}
use Rattle.guarantees.specs.Comparing.{Demand12}
use Rattle.guarantees.specs.Isolation.{Demand3, AtAnyTimes, InAnyOrder}
use Rattle.guarantees.specs.Batches.{BatchesSafe, Demand3Batches, AtAnyRoom}
use Rattle.guarantees.specs.Sample.{table, calls, lent, items}
use Rattle.model.proofs.Requests.{suffix, unkeyed, renewal_by, adoption_by}
use Rattle.model.proofs.Day.{cases, All, opening, at, first}
use Rattle.model.proofs.GoneKeys.{by_first, by_second, in_capitals, deletion, old, second, renewing as renewed_once, lent as lentOctets, items as lentItems}
use Rattle.model.proofs.Keying.{good, nonce, server}

-- The numbers that the calls of a run end with.
abbrev pub numbers : List (Call × Outcome) → List ℕ
numbers l = map (λ x. x.1.answer.number) l

abbrev pub batch_numbers : Batched → List ℕ
batch_numbers r = map (λ (o : Outcome). o.answer.number) r.outcomes

-- The day's key 1 asks for a renewal of this mode, lent all that any scheme needs; it is granted.
abbrev pub renewing : ℕ → Ask
renewing mode = record { given = record { now = 1200; good = true; offer = nonce; fits = true; second = server }; room = 512; octets = good mode }

abbrev pub Grants : ℕ → Scheme → Type 0
Grants mode scheme = (m : Message) × Decides (after 1000 opening) (renewing mode) 0 m (Renews scheme Sha256)

-- The operations of a batch in `GoneKeys` of model, up to its first item; and its second.
abbrev pub passing : List Operation
passing = opening ++ (call (message (unkeyed 1100 true []) 512 by_first) ∷ [])

abbrev pub deleting : Operation
deleting = call (message (unkeyed 1150 true []) 512 (deletion 1150))

-- A key goes in each way that 02, CR 8 names, in a run from a new table; what the calls of these runs show, before and after, is computed in `GoneKeys` of model.
-- (In no such run is a waiting key deleted: decision 25.)
pub record EachWay : Type 0 where
  pub adopted_over_lem : Gone (after 1000 renewed_once) 0 old (at 1202 (adoption_by 1 2 1202))
  pub deleted : Gone (after 1000 opening) 0 first (at 1150 (deletion 1150))
  pub dropped : Gone (after 1000 renewed_once) 0 second (at 1201 (renewal_by 1 1201))
  pub replaced : Gone (after 1000 opening) 0 first (call (issue 1150 1 256)) × Gone (after 1000 renewed_once) 0 second (call (issue 1201 1 256))
  pub closed : Gone (after 1000 opening) 0 first (close 1150 1)
  pub judged : Gone (after 1000 opening) 0 first (at 1600 by_first)
  -- messages that are signed with these keys, once in capitals
  pub by_first_lem : SignedWith by_first (key_name 1 suffix) Sha256 × SignedWith in_capitals (key_name 1 suffix) Sha256
  pub by_second_lem : SignedWith by_second (key_name 2 suffix) Sha256
  -- a run in which a batch passes a message up, deletes its key, and has the message again: the operations that it is, and the key goes with the second item
  pub in_a_batch :
      operations_of (new_at 1000) (on (enrol 1000 suffix 600 400 256) ∷ batch lentOctets lentItems 512 ∷ [])
      ≡ passing ++ (deleting ∷ call (message (unkeyed 1151 true []) 431 by_first) ∷ [])
  pub by_an_item : Gone (after 1000 passing) 0 first deleting

pub record Promises : Type 0 where
  -- each call ends with an answer or a refusal of its list, and a refusal changes nothing but, where the paper says so, the clock
  pub refusals : Demand1
  -- no key's name is made twice, a renewal hands out a new one, an adoption is one step, and the table rules are kept
  pub names : Demand2
  -- a key that is gone stays gone (02, CR 8)
  pub gone : Demand8
  -- loading and listing undo each other, and mending keeps what keeps the rules (02, CR 7)
  pub listings : Demand7
  -- another server's reply is accepted exactly when it has the meaning of ours (02, CR 12)
  pub comparing : Demand12
  -- the pairs are kept apart, over any run whose times never go back
  pub isolation : Demand3
  -- a batch is done as calls, or refused whole and changes nothing (02, CR 4); over any run with batches, each with a buffer that holds its replies together,
  -- the pairs are kept apart too
  pub batches_safe : BatchesSafe
  pub batches : Demand3Batches
  -- the marked cases of 01, "One day at the counter"
  pub day : All cases
  -- The claim on runs is not empty. A run that it speaks of: in its order, CLOCK, a look, a renewal, NOPAIR of a call of no pair, a call of another pair
  -- at the same time, an unsigned query of no pair, TIME.
  pub sample_times : NeverBack calls
  pub sample_numbers : numbers (log table calls) ≡ 3 ∷ 0 ∷ 0 ∷ 9 ∷ 0 ∷ 0 ∷ 2 ∷ []
  pub sample_owners : map (belongs (frame_of table)) calls ≡ Some 0 ∷ Some 0 ∷ Some 0 ∷ None ∷ Some 1 ∷ None ∷ Some 1 ∷ []
  -- nor is the claim on gone keys
  pub sample_gone : EachWay
  -- nor is the claim on granted renewals: one of each scheme (02, CR 10)
  pub sample_renewals : Grants 4097 DiffieHellman × Grants 4098 ServerAssignment × Grants 4099 ResolverAssignment
  -- and the claim on runs does not hold without its hypotheses
  pub needs_times : ¬ AtAnyTimes
  pub needs_order : ¬ InAnyOrder
  -- nor does the claim on gone keys hold with a load in the run, nor with a second new table
  pub needs_no_load : ¬ EvenLoaded
  pub needs_no_new : ¬ EvenNew
  -- A batch that the claim speaks of, of two pairs, in a buffer that just holds its replies; and the same with an octet less: the second item is refused with
  -- ROOM. Without room for both, the claim on batches does not hold.
  pub sample_batch : batch_numbers (batch_on table lent items 129) ≡ 0 ∷ 0 ∷ []
  pub sample_roomy : Roomy table (job lent items 129 ∷ [])
  pub sample_batch_times : NeverBack (all_calls (table_rules table) (job lent items 129 ∷ []))
  pub sample_room : batch_numbers (batch_on table lent items 128) ≡ 0 ∷ 8 ∷ []
  pub needs_room : ¬ AtAnyRoom
