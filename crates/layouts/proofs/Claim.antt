-- 02, CR 11: runs from tables that list alike, on any two layouts. Assumes nothing.
use Prim.Native.Nat.{ℕ, suc, ◌/◌}
use mathlib.Core.Bool.{Bool, true, false}
use mathlib.Core.List.{List, [], ◌∷◌}
use Rattle.std.specs.Prelude.{Option, Some}
use mathlib.Core.Path.{◌≡◌, refl, sym, ap, ap₂, ◌∙◌}
use lib.ListN.{length}
use Rattle.model.specs.Tables.{Table, table_rules}
use Rattle.model.specs.Octets.{put}
use Rattle.model.specs.Calls.{DONE, TABLE, refusal_at, unchanged, gate, enrol_passed, enrol_on, close_passed, close_on, time_of, passed, called, issue_on, revoke_on, look_on, message_on, buffer_after}
use Rattle.model.specs.Runs.{Operation, enrol, close, call, operated}
use Rattle.model.specs.Batches.{Batched, batch_on, batch_buffer}
use Rattle.model.specs.Listing.{listing}
use Rattle.model.specs.Loading as model
use Rattle.model.specs.Loading.{Mended, mend_in, mended_in}
use Rattle.model.proofs.Listings.{listing_inj}
use native.Mathlib.Omega.{arith}
use Rattle.model.proofs.Tests.{not_so}
use Rattle.store.specs.Layout.{layout_rule, table_of}
use Rattle.store.proofs.Laid.{laid, ascends}
use Rattle.operator.proofs.Laws.{new_in_lem}
use Rattle.checking.proofs.Laws.{layout_words, layout_octets}
use Rattle.ruling.proofs.Laws.{broken_layout}
use Rattle.loading.specs.declared.Ended as loading
use Rattle.loading.specs.declared.Mending.{Mending}
use Rattle.loading.specs.Walk.{named_words}
use Rattle.loading.specs.Loads.{lends, load_into, end_of, table_after, Loads, mend_into, dropped_by, table_mended, mends_as, mend_end, Mends}
use Rattle.loading.proofs.Ends.{lends_both}
use Rattle.layouts.specs.Runs.{Act, load, Ended, alone, single, acted, Does, Ran, seen}
use Rattle.layouts.specs.Array.{view_of, run_in}
use Rattle.layouts.specs.Claim.{shown_in, MendDone, Contracts, Covered, Claim}
use Rattle.layouts.proofs.ArrayCalls.{ran}

-- ── Any two layouts ─────────────────────────────────────────────────────────────────────────────────────────────────

module _ {A B : Type 0} (v : A → Table) (u : B → Table) where
  alike :
      (x : A) (y : B) (os : List Act) (run : List (A × Ended)) (other : List (B × Ended))
      → v x ≡ u y
      → Ran v x os run
      → Ran u y os other
      → seen v run ≡ seen u other
  alike x y [] [] [] e r q = refl
  alike x y [] [] (b ∷ other) e r q = elim q [ ]
  alike x y [] (a ∷ run) other e r q = elim r [ ]
  alike x y (o ∷ os) [] other e r q = elim r [ ]
  alike x y (o ∷ os) (a ∷ run) [] e r q = elim q [ ]
  alike x y (o ∷ os) (a ∷ run) (b ∷ other) e r q =
      let one : ◌≡◌ {A = Batched} (record { number = a.1.0; table = v a.0; outcomes = a.1.1 }) (record { number = b.1.0; table = u b.0; outcomes = b.1.1 }) = sym r.0 ∙ ap (λ (t : Table). acted t o) e ∙ q.0 in
      let then : v a.0 ≡ u b.0 = ap (λ (z : Batched). z.table) one in
      ap₂ (λ (z : Ended × List ℕ) (l : List (Ended × List ℕ)). z ∷ l)
      (ap₂ {C = Ended × List ℕ} (λ (z : Ended) (l : List ℕ). (z, l)) (ap {B = Ended} (λ (z : Batched). (z.number, z.outcomes)) one) (ap listing then))
      (alike a.0 b.0 os run other then r.1 q.1)

-- ── TABLE ───────────────────────────────────────────────────────────────────────────────────────────────────────────

module _ (t : Table) (e : table_rules t ≡ false) where
  shut : (time : Option ℕ) → gate t time ≡ Some TABLE
  unfolding gate
  shut time = rw e refl

  refused : (o : Operation) → operated t o ≡ unchanged t TABLE
  unfolding operated enrol_on close_on called
  refused (enrol time suffix lifetime fresh algorithm) = ap (enrol_passed t time suffix lifetime fresh algorithm) (shut (Some time))
  refused (close time number) = ap (close_passed t time number) (shut (Some time))
  refused (call c) = ap (passed t c) (shut (time_of c))

covered : Covered
unfolding shown_in batch_on
covered = record {
  refused = λ l o e. refused (table_of l.0 l.1) (broken_layout l.0 l.1 e) o;
  batches = λ l octets xs room e. rw (broken_layout l.0 l.1 e) refl;
  words = λ l n. layout_words l.0 l.1 n;
  octets = λ l n. layout_octets l.0 l.1 n;
  order = λ w s q h n. not_so (layout_rule w s) λ ok. n (ascends (laid w s ok) q (suc q) (omega arith) h);
  numbers = λ w s i h n. not_so (layout_rule w s) λ ok. n ((laid w s ok).at i h).named;
  places = λ w s q h n. not_so (layout_rule w s) λ ok. n ((laid w s ok).at q h).mapped;
}

-- ── The contracts ───────────────────────────────────────────────────────────────────────────────────────────────────

loads_do : (text w s w' s' : List ℕ) (e : loading.Ended) → lends w s ≡ true → Loads text w s w' s' e → Does shown_in (w, s) (load text) (w', s') (alone (refusal_at e.number e.line))
unfolding shown_in acted
loads_do text w s w' s' e fits v =
    let is : load_into (lends w s) (model.load text) ≡ model.load text = ap (λ (b : Bool). load_into b (model.load text)) fits in
    ap₂ {C = Batched} (λ (t : Table) (x : loading.Ended). record { number = DONE; table = t; outcomes = refusal_at x.number x.line ∷ [] })
    (sym (v.table ∙ ap (table_after (table_of w s)) is))
    (sym (v.says ∙ ap end_of is))

mends_do : (text w s named w' s' named' : List ℕ) (m : Mending) → lends w s ≡ true → Mends text w s named w' s' named' m → MendDone text w s named w' s' named' m
unfolding shown_in acted mend_in
mends_do text w s named w' s' named' m fits v =
    let room = length named / 2 in
    let is : mends_as text w s named ≡ mend_in room text = ap (λ (b : Bool). mended_in room (mend_into b (model.mend text))) fits in
    record {
      words = named_words (dropped_by (mend_in room text));
      does =
          ap₂ {C = Batched} (λ (t : Table) (x : Mending). record { number = DONE; table = t; outcomes = record { answer = (refusal_at x.number x.line).answer; reply = named_words (dropped_by (mend_in room text)) } ∷ [] })
          (sym (v.table ∙ ap (table_mended (table_of w s)) is))
          (sym (v.says ∙ ap mend_end is));
      names = v.names ∙ ap (λ (x : Mended). put (named_words (dropped_by x)) named) is;
    }

contracts : Contracts
unfolding shown_in acted operated issue_on revoke_on look_on message_on buffer_after batch_buffer
contracts = record {
  news = λ time w s w' a long wide v. ap single (sym (v.says ∙ new_in_lem time w s long wide (table_of w s)));
  loads = λ text w s w' s' e long wide v. loads_do text w s w' s' e (lends_both w s long wide) v;
  mends = λ text w s named w' s' named' m long wide v. mends_do text w s named w' s' named' m (lends_both w s long wide) v;
  enrols = λ time suffix lifetime fresh algorithm w s w' s' a v. ap single (sym v.says);
  closes = λ time pair w s w' s' a v. ap single (sym v.says);
  issues = λ time pair algorithm w s w' s' a v. ap single (sym v.says);
  revokes = λ time pair w s w' s' a v. ap single (sym v.says);
  looks = λ m w s a e. ap single (sym e);
  messages = λ g m own w s w' b b' a v. record {
    outcome = (message_on (table_of w s) g (length b) m).outcome;
    does = ap {B = Batched} (λ (t : Table). record { number = DONE; table = t; outcomes = (message_on (table_of w s) g (length b) m).outcome ∷ [] }) (sym v.shows);
    answer = v.answers;
    reply = v.replies;
  };
  batches = λ octets xs w s w' a a' b b' n v. record {
    outcomes = (batch_on (table_of w s) octets xs (length b)).outcomes;
    does =
        ap₂ {C = Batched} (λ (k : ℕ) (t : Table). record { number = k; table = t; outcomes = (batch_on (table_of w s) octets xs (length b)).outcomes }) (sym v.number) (sym v.shows);
    answers = v.answers;
    replies = v.replies;
  };
}

pub claim : Claim
claim = record {
  contracts = contracts;
  covered = covered;
  lent = λ l m os run other e r q. alike shown_in shown_in l m os run other (listing_inj (shown_in l) (shown_in m) e) r q;
  before = λ l a os run z e r. alike shown_in view_of l a os run (run_in a os) (listing_inj (shown_in l) (view_of a) e) r (ran a os z);
}
