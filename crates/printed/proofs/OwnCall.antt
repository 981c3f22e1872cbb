-- What our message call answers to a message with one question, in a buffer of 65,535 octets, is empty or proper: so it is accepted where the other server answers
-- the same (02, CR 12). Assumes nothing.
use Prim.Native.Nat.{ℕ, ◌≤◌, ◌<◌}
use mathlib.Core.Path.{◌≡◌, refl, sym}
use mathlib.Core.Bool.{Bool, true, false, not}
use Rattle.std.specs.Prelude.{Option, None, Some}
use Rattle.std.proofs.lemmas.Option.{none-some}
use mathlib.Core.Logic.{◌⊎◌, inl, inr}
use mathlib.Core.List.{List, [], ◌∷◌}
use native.Mathlib.Omega.{arith}
use borrow.Author.Tests.{leb-true}
use lib.Dec.{leb}
use lib.ListN.{length, length-map}
use Rattle.model.specs.declared.Algorithm.{Algorithm}
use Rattle.model.specs.declared.Scheme.{Scheme}
use Rattle.model.specs.declared.Decision.{Decision}
use Rattle.model.specs.declared.Decision.TheVariants.{Renews}
use Rattle.model.specs.Octets.{Reading, stops, reads}
use Rattle.model.specs.Names.{wire_name, key_name}
use Rattle.model.specs.Messages.{Question, Message, read_message}
use Rattle.model.specs.Tsig.{Signature, unsigned, misplaced, well_placed, signature}
use Rattle.model.specs.Tables.{Table, no_pair, no_row, row_at, suffix_at, pair_at, with_clock, names_of, suffix_ok, table_rules}
use Rattle.model.specs.Pairs.{made}
use Rattle.model.specs.Checks.{check}
use Rattle.model.specs.Judging.{Holder, nobody, holder, held_pair, held_suffix, Given, judge}
use Rattle.model.specs.Replies.{second_ok}
use Rattle.model.specs.Calls.{DONE, TABLE, SIZE, OFFER, NOTQUERY, ROOM, KEYREC, refusal_at, refusal, unchanged, time_gate, gate, Step, leaves, refuses, breaks, size_ok, offer_ok, room_for, reply_to, replied, answered, message_step, message, time_of, read_by, signed_by, octets_owner, owner_of, step_of, holder_at, served_by, served, passed, called, message_on}
use Rattle.model.specs.Loading.{loaded, load}
use Rattle.model.specs.Compare.{Proper, AllOctets, verdict, compared, ours_of, compare_on}
use Rattle.model.proofs.Tests.{each, right, either, by_check, by_place}
use Rattle.model.proofs.Rows.{at_member, row_below, suffix_ok_lem, row_ok}
use Rattle.model.proofs.Decisions.{Allows, allows}
use Rattle.model.proofs.CompareLaws.{accepted, own_accepted}
use Rattle.printed.proofs.Names.{key_wire}
use Rattle.printed.proofs.OwnTkey.{replies_read}

-- Where it reads, it has one question.
abbrev pub OneQuestion : List ℕ → Type 0
OneQuestion x = (m : Message) (end : ℕ) → read_message x ≡ reads m end → (q : Question) × (m.questions ≡ q ∷ [])

-- ── The name of a new key ───────────────────────────────────────────────────────────────────────────────────────────

-- what the table's rules say of the pair that a call belongs to
abbrev Ruled : Holder → Type 0
Ruled nobody = Unit {0}
Ruled (holder number suffix p) = (suffix_ok suffix ≡ true) × (1 ≤ p.next_serial)

new_wire : (h : Holder) → Ruled h → (g : Given) (m : Message) (d : Decision) → Allows g m (held_pair h) d → (scheme : Scheme) (a : Algorithm) → d ≡ Renews scheme a
    → wire_name (key_name (made (held_pair h) g.now a).serial (held_suffix h)) ≡ true
unfolding held_pair held_suffix no_pair made suffix_ok
new_wire nobody r g m d s scheme a e =
    let t : Allows g m no_pair (Renews scheme a) = rw e at s in
    absurd (none-some _ t.allowed.is_signer)
new_wire (holder number suffix p) r g m d s scheme a e =
    let t : Allows g m p (Renews scheme a) = rw e at s in
    let w = each (leb 3 (length suffix) ∷ leb (length suffix) 128 ∷ wire_name suffix ∷ []) r.0 in
    key_wire p.next_serial suffix r.1 t.allowed.spare (leb-true _ _ w.1.0) w.1.1.0

-- ── One call ────────────────────────────────────────────────────────────────────────────────────────────────────────

abbrev Ours : List ℕ → Type 0
Ours r = (r ≡ []) ⊎ Proper r

record Good (s : Step) : Type 0 where
  is : Ours s.outcome.reply

good_refusal : (h : Holder) (n : ℕ) → Good (refuses h n)
unfolding leaves refusal refusal_at
good_refusal h n = record { is = inl refl }

good_break : (h : Holder) (place : ℕ) → Good (breaks h place)
unfolding leaves refusal_at
good_break h place = record { is = inl refl }

module _ (x : List ℕ) (o : AllOctets x) (one : OneQuestion x) (h : Holder) (r : Ruled h) (g : Given) where
  checks : (n : ℕ) (b : Bool) {next : Step} → (b ≡ true → Good next) → Good (check (refuses h) n b next)
  checks n = by_check Good (refuses h) n (good_refusal h n)

  good_answered : (m : Message) (end : ℕ) → read_message x ≡ reads m end → Good (answered h g 65535 m)
  unfolding answered replied reply_to room_for
  good_answered m end says =
      let q = one m end says in
      let d = (judge h g m).decision in
      checks NOTQUERY (not m.response) λ _.
      checks KEYREC (second_ok d g.second) λ s.
      checks ROOM (room_for 65535 (reply_to h g m)) λ f.
      record { is = replies_read x o m end says q.0 q.1 h g d (new_wire h r g m d (allows h g m)) s (leb-true _ _ (right (leb (length (reply_to h g m)) 65535) _ f)) }

  good_message : Good (message_step h g 65535 x)
  unfolding message_step
  good_message =
      checks SIZE (size_ok x) λ _.
      checks OFFER (offer_ok g.offer) λ _.
      by_place Good (breaks h) (good_break h) (read_message x) good_answered

-- ── On a table ──────────────────────────────────────────────────────────────────────────────────────────────────────

module _ (x : List ℕ) (o : AllOctets x) (one : OneQuestion x) (t : Table) (g : Given) where
  ruled : table_rules t ≡ true → (i : ℕ) → i < length t.rows → Ruled (holder_at (with_clock t g.now) i)
  unfolding holder_at with_clock suffix_at pair_at row_at
  ruled rules i h = (suffix_ok_lem t rules i h, (row_ok t rules (at_member t.rows i no_row h)).one)

  -- the row that a message belongs to is one of the table's
  signed_below : (names : List (List ℕ)) (s : Signature) (i : ℕ) → signed_by names s ≡ Some i → i < length names
  signed_below names unsigned i e = absurd (none-some i e)
  signed_below names misplaced i e = absurd (none-some i e)
  signed_below names (well_placed s) i e = row_below names _ i e

  read_below : (names : List (List ℕ)) (r : Reading Message) (i : ℕ) → read_by names r ≡ Some i → i < length names
  read_below names (stops place) i e = absurd (none-some i e)
  read_below names (reads m next) i e = signed_below names (signature m.records) i e

  owner_below : (names : List (List ℕ)) (i : ℕ) → octets_owner names x ≡ Some i → i < length names
  unfolding octets_owner
  owner_below names i e = either (λ (n : Option ℕ). n ≡ Some i → i < length names) (size_ok x) (λ _. read_below names (read_message x) i) (λ _ f. absurd (none-some i f)) e

  names_many : length (names_of (with_clock t g.now)) ≡ length t.rows
  unfolding names_of with_clock
  names_many = length-map t.rows (λ r. r.suffix)

  on_table : table_rules t ≡ true → (n : Option ℕ) → octets_owner (names_of (with_clock t g.now)) x ≡ n → Ours (served_by (with_clock t g.now) (message g 65535 x) n).outcome.reply
  unfolding step_of
  on_table rules None e = (good_message x o one nobody tt g).is
  on_table rules (Some i) e =
      let h : i < length t.rows = omega (arith, owner_below (names_of (with_clock t g.now)) i e, names_many) in
      (good_message x o one (holder_at (with_clock t g.now) i) (ruled rules i h) g).is

  -- a call that is not refused at once is on a table that keeps the rules
  rules_kept : gate t (Some g.now) ≡ None → table_rules t ≡ true
  unfolding gate
  rules_kept e = go (table_rules t) e
    where
      go : (b : Bool) → check Some TABLE b (time_gate (Some g.now) t.clock) ≡ None → b ≡ true
      go true f = refl
      go false f = absurd (none-some TABLE (sym f))

  by_gate : (n : Option ℕ) → gate t (Some g.now) ≡ n → Ours (passed t (message g 65535 x) n).outcome.reply
  unfolding unchanged refusal refusal_at time_of served owner_of
  by_gate (Some n) e = inl refl
  by_gate None e = on_table (rules_kept e) (octets_owner (names_of (with_clock t g.now)) x) refl

  -- Our reply is empty or proper.
  pub own_call : Ours (ours_of t g x)
  unfolding ours_of message_on called time_of
  own_call = by_gate (gate t (Some g.now)) refl

  -- So the other server's is accepted, where it is the same.
  pub own_call_accepted : compared (ours_of t g x) (ours_of t g x) ≡ verdict DONE 0
  own_call_accepted = go own_call
    where
      go : Ours (ours_of t g x) → compared (ours_of t g x) (ours_of t g x) ≡ verdict DONE 0
      go (inl e) = accepted (ours_of t g x) (ours_of t g x) (inl (e, e))
      go (inr p) = own_accepted (ours_of t g x) p

  pub own_judged : (listing : List ℕ) → load listing ≡ loaded t → compare_on listing g x (ours_of t g x) ≡ verdict DONE 0
  unfolding compare_on
  own_judged listing e = rw e own_call_accepted
