-- 02, CR 11: "Prove every reply, number and listing equal to the old layout's for any run, .. from tables that list alike. TABLE now also covers the order and
-- the map." Closing (02, CR 9), loading and mending (02, CR 7) are among the acts. The proof is `claim` of proofs/Claim. Assumes nothing.
use Rattle.std.specs.Prelude.{ℕ, suc, ◌/◌, ◌<◌, false, List, [], ◌≡◌, length, Option}
use Rattle.model.specs.declared.Answer.{Answer}
use Rattle.model.specs.declared.BatchItem.{BatchItem}
use Rattle.model.specs.Octets.{put}
use Rattle.model.specs.Tables.{Table}
use Rattle.model.specs.Judging.{Given}
use Rattle.model.specs.Calls.{TABLE, refusal_at, Outcome, unchanged, issue, revoke, look, message, enrol_on, issue_on, revoke_on, look_on, message_on, close_on}
use Rattle.model.specs.Runs.{Operation, enrol, close, call, operated}
use Rattle.model.specs.Batches.{refused_whole, batch_on, replies_of}
use Rattle.model.specs.Listing.{listing}
use Rattle.std.specs.declared.cmp.Ordering.TheVariants.{Less}
use Rattle.ordering.specs.Order.{order_of}
use Rattle.store.specs.Layout.{count_of, place_of, row_in, suffix_in, layout_rule, table_of}
use Rattle.operator.specs.Made.{Made}
use Rattle.loading.specs.declared.Ended as loading
use Rattle.loading.specs.declared.Mending.{Mending}
use Rattle.loading.specs.Loads.{Loads, Mends}
use Rattle.outcomes.specs.Ends.{shown, Served}
use Rattle.server.specs.Serve.{Answered}
use Rattle.batches.specs.Batched.{answers_of, BatchShows}
use Rattle.layouts.specs.Runs.{Act, new, load, mend, on, batch, Ended, alone, Does, Ran, seen}
use Rattle.layouts.specs.Array.{Array, Sized, view_of, run_in}

-- The words and the octets, and the table that they show.
abbrev pub Lent : Type 0
Lent = List ℕ × List ℕ

unfoldable pub shown_in : Lent → Table
shown_in l = table_of l.0 l.1

-- A batch that ended so.
pub record BatchDone (octets : List ℕ) (xs : List BatchItem) (w s w' a a' b b' : List ℕ) (n : ℕ) : Type 0 where
  pub outcomes : List Outcome
  pub does : Does shown_in (w, s) (batch octets xs (length b)) (w', s) (n, outcomes)
  pub answers : a' ≡ put (answers_of outcomes) a
  pub replies : b' ≡ put (replies_of outcomes) b

-- A mending that ended so.
pub record MendDone (text w s named w' s' named' : List ℕ) (m : Mending) : Type 0 where
  pub words : List ℕ
  pub does : Does shown_in (w, s) (mend (length named / 2) text) (w', s') (alone (record { answer = (refusal_at m.number m.line).answer; reply = words }))
  pub names : named' ≡ put words named

-- A message call that was answered so.
pub record Messaged (g : Given) (m w s w' b b' : List ℕ) (a : Answer) : Type 0 where
  pub outcome : Outcome
  pub does : Does shown_in (w, s) (on (call (message g (length b) m))) (w', s) (alone outcome)
  pub answer : a ≡ outcome.answer
  pub reply : b' ≡ put outcome.reply b

-- The contracts of the calls make what the code does on lent words and octets a run.
pub record Contracts : Type 1 where
  pub news :
      (time : ℕ) (w s w' : List ℕ) (a : Answer) → length w ≡ 1091 → length s ≡ 8192
      → Made time w s w' a
      → Does shown_in (w, s) (new time) (w', s) (alone (record { answer = a; reply = [] }))
  pub loads :
      (text w s w' s' : List ℕ) (e : loading.Ended) → length w ≡ 1091 → length s ≡ 8192
      → Loads text w s w' s' e
      → Does shown_in (w, s) (load text) (w', s') (alone (refusal_at e.number e.line))
  -- a mending's reply are the words that name the dropped lines
  pub mends :
      (text w s named w' s' named' : List ℕ) (m : Mending) → length w ≡ 1091 → length s ≡ 8192
      → Mends text w s named w' s' named' m
      → MendDone text w s named w' s' named' m
  pub enrols :
      (time : ℕ) (suffix : List ℕ) (lifetime fresh algorithm : ℕ) (w s w' s' : List ℕ) (a : Answer)
      → Served (λ t. enrol_on t time suffix lifetime fresh algorithm) w s w' s' a
      → Does shown_in (w, s) (on (enrol time suffix lifetime fresh algorithm)) (w', s') (alone (record { answer = a; reply = [] }))
  pub closes :
      (time pair : ℕ) (w s w' s' : List ℕ) (a : Answer)
      → Served (λ t. close_on t time pair) w s w' s' a
      → Does shown_in (w, s) (on (close time pair)) (w', s') (alone (record { answer = a; reply = [] }))
  pub issues :
      (time pair algorithm : ℕ) (w s w' s' : List ℕ) (a : Answer)
      → Served (λ t. issue_on t time pair algorithm) w s w' s' a
      → Does shown_in (w, s) (on (call (issue time pair algorithm))) (w', s') (alone (record { answer = a; reply = [] }))
  pub revokes :
      (time pair : ℕ) (w s w' s' : List ℕ) (a : Answer)
      → Served (λ t. revoke_on t time pair) w s w' s' a
      → Does shown_in (w, s) (on (call (revoke time pair))) (w', s') (alone (record { answer = a; reply = [] }))
  pub looks : (m w s : List ℕ) (a : Answer) → shown w s a ≡ look_on (table_of w s) m → Does shown_in (w, s) (on (call (look m))) (w, s) (alone (record { answer = a; reply = [] }))
  -- a message's outcome is its answer, and a reply that fills the first octets of its buffer
  pub messages :
      (g : Given) (m : List ℕ) (own : Option ℕ) (w s w' b b' : List ℕ) (a : Answer)
      → Answered (λ t. message_on t g (length b) m) own w s w' b b' a
      → Messaged g m w s w' b b' a
  -- a batch's outcomes are the answers told, and replies one after another in the first octets of its buffer
  pub batches :
      (octets : List ℕ) (xs : List BatchItem) (w s w' a a' b b' : List ℕ) (n : ℕ)
      → BatchShows octets xs w s w' a a' b b' n
      → BatchDone octets xs w s w' a a' b b' n

-- Words and octets that break the layout rule, a wrong length included, are refused with TABLE by every operation and batch, and shown as no table that keeps the
-- rules.
pub record Covered : Type 0 where
  pub refused : (l : Lent) (o : Operation) → layout_rule l.0 l.1 ≡ false → operated (shown_in l) o ≡ unchanged (shown_in l) TABLE
  pub batches :
      (l : Lent) (octets : List ℕ) (xs : List BatchItem) (room : ℕ)
      → layout_rule l.0 l.1 ≡ false
      → batch_on (shown_in l) octets xs room ≡ refused_whole (shown_in l) TABLE
  pub words : (l : Lent) → (length l.0 ≡ 1091 → ⊥) → layout_rule l.0 l.1 ≡ false
  pub octets : (l : Lent) → (length l.1 ≡ 8192 → ⊥) → layout_rule l.0 l.1 ≡ false
  -- so do two places that are not in order, a number whose place does not name it, and a place whose row does not lead back to it
  pub order : (w s : List ℕ) (q : ℕ) → suc q < count_of w → (order_of (suffix_in w s q) (suffix_in w s (suc q)) ≡ Less → ⊥) → layout_rule w s ≡ false
  pub numbers : (w s : List ℕ) (n : ℕ) → n < count_of w → (row_in w (place_of w n) ≡ n → ⊥) → layout_rule w s ≡ false
  pub places : (w s : List ℕ) (q : ℕ) → q < count_of w → (place_of w (row_in w q) ≡ q → ⊥) → layout_rule w s ≡ false

pub record Claim : Type 1 where
  pub contracts : Contracts
  pub covered : Covered
  -- from lent tables that list alike, whatever their words, any run ends alike, act by act
  pub lent :
      (l m : Lent) (os : List Act) (run other : List (Lent × Ended))
      → listing (shown_in l) ≡ listing (shown_in m)
      → Ran shown_in l os run
      → Ran shown_in m os other
      → seen shown_in run ≡ seen shown_in other
  -- and as the layout before did
  pub before :
      (l : Lent) (a : Array) (os : List Act) (run : List (Lent × Ended))
      → Sized a
      → listing (shown_in l) ≡ listing (view_of a)
      → Ran shown_in l os run
      → seen shown_in run ≡ seen view_of (run_in a os)
