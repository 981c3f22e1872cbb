-- Gone means gone. Assumes nothing.
use mathlib.Core.Path.{◌≡◌, refl, sym, ap, ap₂, ◌∙◌, subst}
use mathlib.Core.Bool.{Bool, true, false, cond, not, ◌&&◌, false≢true}
use Rattle.std.specs.Prelude.{Option, None, Some}
use Rattle.std.proofs.lemmas.Option.{none-some, same_Some}
use mathlib.Core.Logic.{◌⊎◌, inl, inr}
use mathlib.Core.List.{List, [], ◌∷◌, ◌++◌, map, Memᴰ, cons≢nil}
use Prim.Native.Nat.{ℕ, zero, suc, ◌^◌, ◌≤◌, ◌<◌}
use native.Mathlib.Omega.{arith}
use lib.Dec.{leb, ltb}
use lib.ListN.{length, get_or, set, take, drop}
use borrow.Author.Tests.{le-ltb}
use Rattle.model.specs.declared.Algorithm.{Algorithm}
use Rattle.model.specs.declared.Key.{Key}
use Rattle.model.specs.declared.Keys.{Keys}
use Rattle.model.specs.declared.Keys.TheVariants.{Empty, Adopted, Renewing}
use Rattle.model.specs.declared.Pair.{Pair}
use Rattle.model.specs.declared.Scheme.{Scheme}
use Rattle.model.specs.declared.Decision.{Decision}
use Rattle.model.specs.declared.Decision.TheVariants.{Refused, Renews, Adopts, Deletes, Withdraws}
use Rattle.model.specs.Octets.{be16, Reading, stops, reads}
use Rattle.model.specs.Names.{same_name, key_name, algorithm_name, algorithm_numbered}
use Rattle.model.specs.Messages.{Message, read_message}
use Rattle.model.specs.Tsig.{Tsig, Signature, unsigned, misplaced, well_placed, signature}
use Rattle.model.specs.Tkey.{contents_of}
use Rattle.model.specs.Pairs.{with_keys, made, revoked_key, issued, renewed_keys, renewed, adopted_keys, adopted, deleted as deletedPair, withdrawn_keys, withdrawn as withdrawnPair}
use Rattle.model.specs.Tables.{Row, Table, no_pair, no_row, row_at, suffix_at, pair_at, with_clock, with_pair, names_of, row_named, is_none, distinct, table_rules}
use Rattle.model.specs.Judging.{not_auth, bad_key, Holder, nobody, held_pair, held_suffix, held_number, key_if, is_named, is_key, adopted_of, waiting_of, signer_of, Given, Judged, unknown, in_time, step3, decide, judge_read, judge, changed}
use Rattle.model.specs.Replies.{heading, rcode_reply, reply_of, second_ok}
use Rattle.model.specs.Calls.{breaks, refusal_at, DONE, TABLE, TIME, CLOCK, SIZE, OFFER, FORMAT, NOTQUERY, ROOM, SPENT, TERM, Outcome, Result, Step, refusal, unchanged, refuses, leaves, time_fits, time_goes_on, time_gate, empty_table, new_table, gate, Call, issue, time_of, without_row, number_owner, closed as closedRow, close_passed, close_on, size_ok, offer_ok, room_for, reply_to, replied, answered, message_step, owner_of, step_of, holder_at, served_by, served, called, KEYREC}
use Rattle.model.specs.Runs.{Operation, close, call, operated, operated_all, Has, next_of, key_made}
use Rattle.model.proofs.Tests.{left, right, and_false, differs, by_check, by_place}
use Rattle.model.proofs.RuleFacts.{KeysOk, PairOk}
use Rattle.model.proofs.NameLaws.{same_refl, same_sym, same_on_lem, key_same}
use Rattle.model.proofs.Rows.{at_member, set_has, none_member, all_distinct, row_ok, same_next}
use Rattle.model.proofs.CallLaws.{same_row, refused_first, passes_first, issue_spent, issue_term, issue_done}
use Rattle.guarantees.specs.Refusals.{operation_time, moved_by}
use Rattle.guarantees.specs.Freshness.{after, Ask, asks, Decides}
use Rattle.guarantees.specs.Gone.{KeyIn, Goes, lost, expired, SignedWith, Nothing, Gone, adopted_over, deleted, withdrawn, dropped, replaced, closed, judged, GoesIsGone}
use Rattle.guarantees.proofs.OneCall.{pass_time, served_is}
use Rattle.guarantees.proofs.Made.{key_ok, Held, Event, next_fits, next_row, owner_enrolled}
use Rattle.guarantees.proofs.Refusals.{demand1}
use Rattle.guarantees.proofs.Closing.{none_left}
use Rattle.guarantees.proofs.Freshness.{operation_made, operation_new, run_rules, is_done, waiting_is, last_rules}

-- ── The keys of a table that keeps the rules ────────────────────────────────────────────────────────────────────────

-- two keys of a pair with one serial are one key
one_key : (l n c : ℕ) (ks : Keys) (j k : Key) → KeysOk l n c ks → Has ks j → Has ks k → j.serial ≡ k.serial → j ≡ k
one_key l n c Empty j k o (inl e) f q = absurd (none-some j e)
one_key l n c Empty j k o (inr e) f q = absurd (none-some j e)
one_key l n c (Adopted a) j k o (inl e) (inl f) q = same_Some j k (sym e ∙ f)
one_key l n c (Adopted a) j k o (inl e) (inr f) q = absurd (none-some k f)
one_key l n c (Adopted a) j k o (inr e) f q = absurd (none-some j e)
one_key l n c (Renewing a w) j k o (inl e) (inl f) q = same_Some j k (sym e ∙ f)
one_key l n c (Renewing a w) j k o (inl e) (inr f) q =
    let x : a.serial ≡ j.serial = ap (λ (y : Key). y.serial) (same_Some a j e) in
    let y : w.serial ≡ k.serial = ap (λ (y : Key). y.serial) (same_Some w k f) in
    let z : a.serial < w.serial = o.2 in
    absurd (omega arith)
one_key l n c (Renewing a w) j k o (inr e) (inl f) q =
    let x : w.serial ≡ j.serial = ap (λ (y : Key). y.serial) (same_Some w j e) in
    let y : a.serial ≡ k.serial = ap (λ (y : Key). y.serial) (same_Some a k f) in
    let z : a.serial < w.serial = o.2 in
    absurd (omega arith)
one_key l n c (Renewing a w) j k o (inr e) (inr f) q = same_Some j k (sym e ∙ f)

-- two rows with one suffix are one row
one_row : {x y : Row} (rs : List Row) → distinct (map (λ r. r.suffix) rs) ≡ true → Memᴰ x rs → Memᴰ y rs → same_name x.suffix y.suffix ≡ true → x ≡ y
unfolding distinct
one_row [] d m _ q = elim m [ ]
one_row (r ∷ rs) d (mathlib.Core.List.Memᴰ.head e) (mathlib.Core.List.Memᴰ.head f) q = e ∙ sym f
one_row {x} {y} (r ∷ rs) d (mathlib.Core.List.Memᴰ.head e) (mathlib.Core.List.Memᴰ.tail m) q =
    let names = map (λ (r : Row). r.suffix) rs in
    let w = none_member names r.suffix (left (is_none (row_named names r.suffix)) (distinct names) d) (mathlib.Core.List.Memᴰ.map (λ (r : Row). r.suffix) m) in
    absurd (differs _ w (same_sym y.suffix r.suffix ∙ ap (λ (z : Row). same_name z.suffix y.suffix) (sym e) ∙ q))
one_row {x} {y} (r ∷ rs) d (mathlib.Core.List.Memᴰ.tail m) (mathlib.Core.List.Memᴰ.head f) q =
    let names = map (λ (r : Row). r.suffix) rs in
    let w = none_member names r.suffix (left (is_none (row_named names r.suffix)) (distinct names) d) (mathlib.Core.List.Memᴰ.map (λ (r : Row). r.suffix) m) in
    absurd (differs _ w (ap (λ (z : Row). same_name x.suffix z.suffix) (sym f) ∙ q))
one_row (r ∷ rs) d (mathlib.Core.List.Memᴰ.tail m) (mathlib.Core.List.Memᴰ.tail n) q =
    let names = map (λ (r : Row). r.suffix) rs in
    one_row rs (right (is_none (row_named names r.suffix)) (distinct names) d) m n q

module _ (t : Table) (r : table_rules t ≡ true) where
  -- a key's serial was next once
  given_serial : (x : Row) (k : Key) → Memᴰ x t.rows → Has x.pair.keys k → k.serial < next_of t x.suffix
  given_serial x k m h =
      let o = row_ok t r m in
      let b : k.serial < x.pair.next_serial = (key_ok _ _ _ x.pair.keys k o.keys_ok h).below in
      let e : next_of t x.suffix ≡ x.pair.next_serial = next_row t r m in
      omega arith

  same_row_next : (a b : List ℕ) → same_name a b ≡ true → next_of t a ≡ next_of t b
  unfolding next_of
  same_row_next a b e = same_next t.rows _ a b e

  -- the table has one key of a name
  one_expiry : (x y : Row) (j k : Key) → Memᴰ x t.rows → Memᴰ y t.rows → same_name x.suffix y.suffix ≡ true → Has x.pair.keys j → Has y.pair.keys k → j.serial ≡ k.serial → j.expiry ≡ k.expiry
  unfolding names_of
  one_expiry x y j k m n s hj hk e =
      let q : x ≡ y = one_row t.rows (all_distinct t r) m n s in
      ap (λ (z : Key). z.expiry) (one_key _ _ _ y.pair.keys j k (row_ok t r n).keys_ok (subst (λ (z : Row). Has z.pair.keys j) q hj) hk e)

-- ── Names of dead keys ──────────────────────────────────────────────────────────────────────────────────────────────

-- The key of this serial and this suffix was made, and where the table still has it, it is past its expiry.
record Dead (t : Table) (s : List ℕ) (n : ℕ) : Type 0 where
  made : n < next_of t s
  late : (x : Row) (k : Key) → Memᴰ x t.rows → same_name x.suffix s ≡ true → Has x.pair.keys k → k.serial ≡ n → k.expiry ≤ t.clock

held : (t : Table) (x : Row) (k : Key) → Memᴰ x t.rows → Has x.pair.keys k → Held t x.suffix k.serial k.expiry
held t x k m h = record { row = x; there = m; suffix_is = refl; key = k; has = h; serial_is = refl; expiry_is = refl }

-- One operation.
module _ (t : Table) (o : Operation) (r : table_rules t ≡ true) (s : List ℕ) (n : ℕ) (made : n < next_of t s) where
  abbrev u : Table
  u = (operated t o).table

  event : Event t u (key_made t o)
  event = operation_made t o r

  -- a key of this name comes from the table before
  from_before : (x : Row) (k : Key) → Memᴰ x u.rows → same_name x.suffix s ≡ true → Has x.pair.keys k → k.serial ≡ n → Held t x.suffix k.serial k.expiry
  from_before x k m same h e = go (event.origin x.suffix k.serial k.expiry (held u x k m h))
    where
      go : Held t x.suffix k.serial k.expiry ⊎ (key_made t o ≡ Some (key_name k.serial x.suffix)) → Held t x.suffix k.serial k.expiry
      go (inl w) = w
      go (inr q) =
          let w = operation_new t o _ q in
          let a : k.serial < next_of u x.suffix = given_serial u event.rules x k m h in
          let b : next_of u x.suffix ≤ 2 ^ 32 = next_fits u event.rules x.suffix in
          let c : next_of u w.suffix ≤ 2 ^ 32 = next_fits u event.rules w.suffix in
          let d : next_of t w.suffix < next_of u w.suffix = w.more in
          let z = key_same k.serial (next_of t w.suffix) x.suffix w.suffix (omega arith) (omega arith) (ap (same_name (key_name k.serial x.suffix)) (sym w.is) ∙ same_refl (key_name k.serial x.suffix)) in
          let f : k.serial ≡ next_of t w.suffix = z.0 in
          let g : next_of t w.suffix ≡ next_of t x.suffix = sym (same_row_next t r x.suffix w.suffix z.1) in
          let i : next_of t x.suffix ≡ next_of t s = same_row_next t r x.suffix s same in
          absurd (omega arith)

  made_then : n < next_of u s
  made_then = omega (arith, event.onward s)

  stays_dead : Dead t s n → Dead u s n
  stays_dead d = record { made = made_then; late = λ x k m same h e. late_then x k same e (from_before x k m same h e) }
    where
      late_then : (x : Row) (k : Key) → same_name x.suffix s ≡ true → k.serial ≡ n → Held t x.suffix k.serial k.expiry → k.expiry ≤ u.clock
      late_then x k same e w =
          let a : w.key.expiry ≤ t.clock = d.late w.row w.key w.there (ap (λ (z : List ℕ). same_name z s) w.suffix_is ∙ same) w.has (w.serial_is ∙ e) in
          let b : w.key.expiry ≡ k.expiry = w.expiry_is in
          let c : t.clock ≤ u.clock = event.clocks in
          omega arith

-- The operation that a key goes with.
goes_dead : (t : Table) (o : Operation) (s : List ℕ) (k : Key) → table_rules t ≡ true → Goes t o s k → Dead (operated t o).table s k.serial
goes_dead t o s k r g = go g
  where
    was_made : KeyIn t s k → k.serial < next_of t s
    was_made i = subst (λ (z : List ℕ). k.serial < next_of t z) i.suffix_is (given_serial t r i.row k i.there i.has)

    clock_then : (time : ℕ) → operation_time o ≡ Some time → gate t (Some time) ≡ None → (operated t o).table.clock ≡ time
    clock_then time e p =
        (demand1.every_call t o).clock_moves
        ∙ ap (λ (τ : Option ℕ). moved_by (gate t τ) τ t.clock) e
        ∙ ap (λ (x : Option ℕ). moved_by x (Some time) t.clock) p

    go : Goes t o s k → Dead (operated t o).table s k.serial
    go (lost i none_there) = record { made = made_then t o r s k.serial (was_made i); late = λ x j m same h e. absurd (none_there x j m same h e) }
    go (expired i time e p late) = record { made = made_then t o r s k.serial (was_made i); late = λ x j m same h q. late_then x j same q (from_before t o r s k.serial (was_made i) x j m same h q) }
      where
        late_then : (x : Row) (j : Key) → same_name x.suffix s ≡ true → j.serial ≡ k.serial → Held t x.suffix j.serial j.expiry → j.expiry ≤ (operated t o).table.clock
        late_then x j same q w =
            let a : w.key.expiry ≡ k.expiry =
            one_expiry t r w.row i.row w.key k w.there i.there (ap₂ same_name w.suffix_is i.suffix_is ∙ same) w.has i.has (w.serial_is ∙ q)
            in
            let b : w.key.expiry ≡ j.expiry = w.expiry_is in
            let c : (operated t o).table.clock ≡ time = clock_then time e p in
            omega arith

dead_run : (t : Table) (os : List Operation) (s : List ℕ) (n : ℕ) → table_rules t ≡ true → Dead t s n → Dead (operated_all t os) s n
unfolding operated_all
dead_run t [] s n r d = d
dead_run t (o ∷ os) s n r d = dead_run (operated t o).table os s n (operation_made t o r).rules (stays_dead t o r s n d.made d)

-- ── A message signed with the name of a dead key ────────────────────────────────────────────────────────────────────

-- The gate refuses with a number.
gate_refuses : (t : Table) (τ : Option ℕ) (n : ℕ) → gate t τ ≡ Some n → ¬ (n ≡ 0)
unfolding gate TABLE TIME CLOCK
gate_refuses t τ n = by_check P Some TABLE (λ e z. refusal_is 0 (e ∙ ap Some z)) (table_rules t) λ _. by_time τ
  where
    P : Option ℕ → Type 0
    P x = x ≡ Some n → ¬ (n ≡ 0)

    refusal_is : (k : ℕ) → ¬ (◌≡◌ {A = Option ℕ} (Some (suc k)) (Some 0))
    refusal_is k e = let z : suc k ≡ 0 = same_Some (suc k) 0 e in omega (arith, z)

    by_time : (τ : Option ℕ) → P (time_gate τ t.clock)
    by_time None = λ e. absurd (none-some n e)
    by_time (Some time) =
        by_check P Some TIME (λ e z. refusal_is 1 (e ∙ ap Some z)) (time_fits time) λ _.
        by_check P Some CLOCK (λ e z. refusal_is 2 (e ∙ ap Some z)) (time_goes_on t.clock time) λ _. λ e. absurd (none-some n e)

-- So a call that is done has passed it.
passed_gate : (t : Table) (τ : Option ℕ) → ((n : ℕ) → gate t τ ≡ Some n → n ≡ 0) → gate t τ ≡ None
passed_gate t τ f = go (gate t τ) refl
  where
    go : (g : Option ℕ) → gate t τ ≡ g → g ≡ None
    go None e = refl
    go (Some n) e = absurd (gate_refuses t τ n e (f n e))

key_passes : (test : Key → Bool) (k : Option Key) (a : Key) → key_if test k ≡ Some a → (k ≡ Some a) × (test a ≡ true)
key_passes test None a e = absurd (none-some a e)
key_passes test (Some k) a e = go (test k) refl e
  where
    go : (b : Bool) → test k ≡ b → cond b (Some k) None ≡ Some a → (◌≡◌ {A = Option Key} (Some k) (Some a)) × (test a ≡ true)
    go true w q = (q, ap test (sym (same_Some k a q)) ∙ w)
    go false w q = absurd (none-some a q)

-- The key that its TSIG gives, if there is one, is past its expiry.
signer_late : (t : Table) (s : List ℕ) (n : ℕ) → table_rules t ≡ true → Dead t s n → (x : Tsig) → same_name x.name (key_name n s) ≡ true → (i : ℕ) → i < length t.rows → (a : Key) → signer_of (holder_at t i) x ≡ Some a → a.expiry ≤ t.clock
unfolding signer_of holder_at suffix_at pair_at row_at is_key is_named
signer_late t s n r d x e i h a q =
    let y : Row = get_or t.rows i no_row in
    let m : Memᴰ y t.rows = at_member t.rows i no_row h in
    let w = key_passes _ (adopted_of y.pair.keys) a q in
    let name = key_name a.serial y.suffix in
    let named : same_name x.name name ≡ true = left (same_name x.name name) _ w.1 in
    let b : a.serial < next_of t y.suffix = given_serial t r y a m (inl w.0) in
    let c : next_of t y.suffix ≤ 2 ^ 32 = next_fits t r y.suffix in
    let f : n < next_of t s = d.made in
    let g : next_of t s ≤ 2 ^ 32 = next_fits t r s in
    let k = key_same a.serial n y.suffix s (omega arith) (omega arith) (sym (same_on_lem name x.name (key_name n s) e) ∙ same_sym name x.name ∙ named) in
    d.late y a m k.1 (inl w.0) k.0

late_key : (a : Key) (now : ℕ) → a.expiry ≤ now → in_time a now ≡ false
unfolding in_time
late_key a now h = and_false (leb a.inception now) (le-ltb now a.expiry h)

-- So it is refused in step 3, with BADKEY.
late_refused : (h : Holder) (g : Given) (m : Message) (x : Tsig) → signature m.records ≡ well_placed x → ((a : Key) → signer_of h x ≡ Some a → a.expiry ≤ g.now) → (judge h g m).decision ≡ Refused not_auth bad_key
unfolding judge judge_read unknown
late_refused h g m x e f = rw e (go (signer_of h x) refl)
  where
    next : Key → Judged
    next a = record { decision = decide (held_suffix h) (held_pair h) a g (contents_of m) x; pair = held_number h; serial = a.serial }

    go : (o : Option Key) → signer_of h x ≡ o → (step3 o g.now next).decision ≡ Refused not_auth bad_key
    go None q = refl
    go (Some a) q = ap (λ (b : Bool). (cond b (next a) (unknown (Refused not_auth bad_key))).decision) (late_key a g.now (f a q))

-- Such a message has a reply: a header, at least.
refused_replies : (h : Holder) (g : Given) (m : Message) (rcode error : ℕ) → (judge h g m).decision ≡ Refused rcode error → ¬ (reply_to h g m ≡ [])
unfolding reply_to reply_of rcode_reply heading be16
refused_replies h g m rcode error d e = cons≢nil (ap (reply_of h g m) (sym d) ∙ e)

-- Done with no reply: what is seen of a message that is passed up.
abbrev Silent : Outcome → Type 0
Silent o = (o.answer.number ≡ 0) × (o.reply ≡ [])

-- A message that is refused in judging leaves its pair as it was, and is answered or refused with a number.
refused_stays :
    (h : Holder) (g : Given) (room : ℕ) (octets : List ℕ) (m : Message) (end : ℕ)
    → read_message octets ≡ reads m end
    → (rcode error : ℕ)
    → (judge h g m).decision ≡ Refused rcode error
    → ((message_step h g room octets).pair ≡ held_pair h) × ¬ Silent (message_step h g room octets).outcome
unfolding message_step answered replied changed leaves refusal refusal_at SIZE OFFER FORMAT NOTQUERY KEYREC ROOM
refused_stays h g room octets m end is rcode error e =
    by_check P (refuses h) SIZE (refl, λ z. omega (arith, z.0)) (size_ok octets) λ _.
    by_check P (refuses h) OFFER (refl, λ z. omega (arith, z.0)) (offer_ok g.offer) λ _.
    by_place P (breaks h) (λ place. (refl, λ z. omega (arith, z.0))) (read_message octets) λ n last is-too.
    by_check P (refuses h) NOTQUERY (refl, λ z. omega (arith, z.0)) (not n.response) λ _.
    by_check P (refuses h) KEYREC (refl, λ z. omega (arith, z.0)) (second_ok (judge h g n).decision g.second) λ _.
    by_check P (refuses h) ROOM (refl, λ z. omega (arith, z.0)) (room_for room (reply_to h g n)) λ _.
    let q : n ≡ m = cc in
    let d : (judge h g n).decision ≡ Refused rcode error = ap (λ (y : Message). (judge h g y).decision) q ∙ e in
    (ap (λ (x : Decision). changed x g.now (held_pair h)) d, λ z. refused_replies h g n rcode error d z.1)
  where
    P : Step → Type 0
    P s = (s.pair ≡ held_pair h) × ¬ Silent s.outcome

held_is : (t : Table) (i : ℕ) → held_pair (holder_at t i) ≡ pair_at t i
unfolding held_pair holder_at
held_is t i = refl

same_holder : (t : Table) (time i : ℕ) → holder_at (with_clock t time) i ≡ holder_at t i
unfolding holder_at with_clock suffix_at pair_at row_at
same_holder t time i = refl

module _ (t : Table) (s : List ℕ) (n : ℕ) (r : table_rules t ≡ true) (d : Dead t s n) (q : Ask) (octets-read : Message) (end : ℕ) (x : Tsig)
    (is : read_message q.octets ≡ reads octets-read end) (sign : signature octets-read.records ≡ well_placed x) (named : same_name x.name (key_name n s) ≡ true) where
  abbrev m : Message
  m = octets-read

  abbrev now : ℕ
  now = q.given.now

  abbrev at : Table
  at = with_clock t now

  -- whosever it is
  badkey_row : t.clock ≤ now → (i : ℕ) → i < length t.rows → (judge (holder_at t i) q.given m).decision ≡ Refused not_auth bad_key
  badkey_row h i b = late_refused (holder_at t i) q.given m x sign λ a e. let l : a.expiry ≤ t.clock = signer_late t s n r d x named i b a e in omega arith

  badkey_at : t.clock ≤ now → (i : ℕ) → i < length t.rows → (judge (holder_at at i) q.given m).decision ≡ Refused not_auth bad_key
  badkey_at h i b = ap (λ (y : Holder). (judge y q.given m).decision) (same_holder t now i) ∙ badkey_row h i b

  -- also nobody's, where its suffix is not enrolled
  badkey_none : (judge nobody q.given m).decision ≡ Refused not_auth bad_key
  unfolding signer_of
  badkey_none = late_refused nobody q.given m x sign λ a e. absurd (none-some a e)

  badkey_step : (h : Holder) → (judge h q.given m).decision ≡ Refused not_auth bad_key → ((step_of h (asks q)).pair ≡ held_pair h) × ¬ Silent (step_of h (asks q)).outcome
  unfolding step_of
  badkey_step h e = refused_stays h q.given q.room q.octets m end is not_auth bad_key e

  not_passed_up : ¬ Silent (called t (asks q)).outcome
  unfolding time_of unchanged refusal refusal_at with_clock
  not_passed_up = go (gate t (Some now)) refl
    where
      by_owner : t.clock ≤ now → (o : Option ℕ) → owner_of (names_of at) (asks q) ≡ o → ¬ Silent (served_by at (asks q) o).outcome
      by_owner h None w = (badkey_step nobody badkey_none).1
      by_owner h (Some i) w = (badkey_step (holder_at at i) (badkey_at h i (owner_enrolled at (asks q) i w))).1

      go : (g : Option ℕ) → gate t (Some now) ≡ g → ¬ Silent (called t (asks q)).outcome
      go (Some k) e = subst (λ (y : Result). ¬ Silent y.outcome) (sym (refused_first t (asks q) k e)) λ z. gate_refuses t (Some now) k e z.0
      go None e = subst (λ (y : Result). ¬ Silent y.outcome) (sym (passes_first t (asks q) e ∙ served_is at (asks q))) (by_owner (pass_time t (Some now) e).0 (owner_of (names_of at) (asks q)) refl)

  step_stays : t.clock ≤ now → (i : ℕ) → i < length t.rows → (step_of (holder_at at i) (asks q)).pair ≡ pair_at at i
  step_stays h i b = (badkey_step (holder_at at i) (badkey_at h i b)).0 ∙ held_is at i

  rows_stay : (called t (asks q)).table.rows ≡ t.rows
  unfolding time_of unchanged with_clock
  rows_stay = go (gate t (Some now)) refl
    where
      by_owner : t.clock ≤ now → (o : Option ℕ) → owner_of (names_of at) (asks q) ≡ o → (served_by at (asks q) o).table.rows ≡ t.rows
      by_owner h None w = refl
      by_owner h (Some i) w =
          let b : i < length t.rows = owner_enrolled at (asks q) i w in
          ap (λ (p : Pair). (with_pair at i p).rows) (step_stays h i b) ∙ ap (λ (y : Table). y.rows) (same_row at i)

      go : (g : Option ℕ) → gate t (Some now) ≡ g → (called t (asks q)).table.rows ≡ t.rows
      go (Some k) e = ap (λ (y : Result). y.table.rows) (refused_first t (asks q) k e)
      go None e =
          ap (λ (y : Result). y.table.rows) (passes_first t (asks q) e ∙ served_is at (asks q))
          ∙ by_owner (pass_time t (Some now) e).0 (owner_of (names_of at) (asks q)) refl

  nothing : Nothing t q
  unfolding DONE
  nothing = record { not_passed = not_passed_up; no_change = rows_stay }

-- ── The ways that the paper names ───────────────────────────────────────────────────────────────────────────────────

-- The keys ks have no key of this serial.
abbrev Without : Keys → ℕ → Type 0
Without ks n = (j : Key) → Has ks j → ¬ (j.serial ≡ n)

without_empty : (n : ℕ) → Without Empty n
without_empty n j (inl e) q = none-some j e
without_empty n j (inr e) q = none-some j e

without_adopted : (a : Key) (n : ℕ) → ¬ (a.serial ≡ n) → Without (Adopted a) n
without_adopted a n f j (inl e) q = f (ap (λ (y : Key). y.serial) (same_Some a j e) ∙ q)
without_adopted a n f j (inr e) q = none-some j e

without_both : (a w : Key) (n : ℕ) → ¬ (a.serial ≡ n) → ¬ (w.serial ≡ n) → Without (Renewing a w) n
without_both a w n f g j (inl e) q = f (ap (λ (y : Key). y.serial) (same_Some a j e) ∙ q)
without_both a w n f g j (inr e) q = g (ap (λ (y : Key). y.serial) (same_Some w j e) ∙ q)

issued_without : (p : Pair) (time : ℕ) (g : Algorithm) (n : ℕ) → n < p.next_serial → Without (issued p time g).keys n
unfolding issued with_keys made
issued_without p time g n h = without_adopted (made p time g) n (omega arith)

number_enrolled : (t : Table) (time number algorithm i : ℕ) → number_owner (names_of t) number ≡ Some i → i < length t.rows
unfolding owner_of
number_enrolled t time number algorithm i w = owner_enrolled t (issue time number algorithm) i w

module _ (t : Table) (i : ℕ) (k : Key) (r : table_rules t ≡ true) where
  abbrev was : Pair
  was = pair_at t i

  module _ (below : i < length t.rows) where
    there_was : Memᴰ (row_at t i) t.rows
    unfolding row_at
    there_was = at_member t.rows i no_row below

    key_in : Has was.keys k → KeyIn t (suffix_at t i) k
    unfolding suffix_at pair_at
    key_in h = record { row = row_at t i; there = there_was; suffix_is = refl; has = h }

    pair_ok : PairOk t.clock was
    unfolding pair_at
    pair_ok = row_ok t r there_was

    serial_below : Has was.keys k → k.serial < was.next_serial
    serial_below h = (key_ok _ _ _ was.keys k pair_ok.keys_ok h).below

    -- an operation that passes at a time not before its expiry
    outlives : (q : Ask) → Has was.keys k → gate t (Some q.given.now) ≡ None → k.expiry ≤ q.given.now → Goes t (call (asks q)) (suffix_at t i) k
    unfolding operation_time time_of
    outlives q h p e = expired (key_in h) q.given.now refl p e

    -- a call that leaves this pair without the key
    loses : (c : Call) (p : Pair) → (called t c).table.rows ≡ set t.rows i (record { suffix = suffix_at t i; pair = p }) → Has was.keys k → Without p.keys k.serial → Goes t (call c) (suffix_at t i) k
    unfolding operated names_of
    loses c p e h f = lost (key_in h) λ x j m same q.
        let u = (called t c).table in
        let y : Row = record { suffix = suffix_at t i; pair = p } in
        let there : Memᴰ y u.rows = rw e (set_has t.rows i y below) in
        let one : x ≡ y = one_row u.rows (all_distinct u (operation_made t (call c) r).rules) m there same in
        f j (subst (λ (z : Row). Has z.pair.keys j) one q)

  module _ (q : Ask) (m : Message) (d : Decision) (x : Decides t q i m d) where
    in_table : i < length t.rows
    in_table = owner_enrolled t (asks q) i x.owner

    rows_then : (called t (asks q)).table.rows ≡ set t.rows i (record { suffix = suffix_at t i; pair = changed d q.given.now was })
    unfolding with_pair with_clock suffix_at row_at
    rows_then = ap (λ (y : Result). y.table.rows) (is_done t q i m d x)

    decided_loses : Has was.keys k → Without (changed d q.given.now was).keys k.serial → Goes t (call (asks q)) (suffix_at t i) k
    decided_loses h f = loses in_table (asks q) (changed d q.given.now was) rows_then h f

  module _ (q : Ask) (m : Message) where
    adopts_over : (new : Key) → Decides t q i m Adopts → was.keys ≡ Renewing k new → Goes t (call (asks q)) (suffix_at t i) k
    unfolding changed adopted with_keys adopted_keys
    adopts_over new x e =
        let o : KeysOk _ _ _ (Renewing k new) = subst (KeysOk _ _ _) e (pair_ok (in_table q m Adopts x)).keys_ok in
        let z : k.serial < new.serial = o.2 in
        decided_loses q m Adopts x (inl (ap adopted_of e)) (subst (λ (ks : Keys). Without (adopted_keys ks) k.serial) (sym e) (without_adopted new k.serial (omega arith)))

    deletes : Decides t q i m Deletes → Has was.keys k → Goes t (call (asks q)) (suffix_at t i) k
    unfolding changed deletedPair with_keys
    deletes x h = decided_loses q m Deletes x h (without_empty k.serial)

    withdraws : Decides t q i m Withdraws → waiting_of was.keys ≡ Some k → Goes t (call (asks q)) (suffix_at t i) k
    unfolding changed withdrawnPair with_keys withdrawn_keys
    withdraws x h =
        let a = waiting_is was.keys k h in
        let o : KeysOk _ _ _ (Renewing a.0 k) = subst (KeysOk _ _ _) a.1 (pair_ok (in_table q m Withdraws x)).keys_ok in
        let z : a.0.serial < k.serial = o.2 in
        decided_loses q m Withdraws x (inr h) (subst (λ (ks : Keys). Without (withdrawn_keys ks) k.serial) (sym a.1) (without_adopted a.0 k.serial (omega arith)))

    drops : (scheme : Scheme) (g : Algorithm) → Decides t q i m (Renews scheme g) → waiting_of was.keys ≡ Some k → Goes t (call (asks q)) (suffix_at t i) k
    unfolding changed renewed with_keys renewed_keys revoked_key made
    drops scheme g x h =
        let a = waiting_is was.keys k h in
        let o : KeysOk _ _ _ (Renewing a.0 k) = subst (KeysOk _ _ _) a.1 (pair_ok (in_table q m (Renews scheme g) x)).keys_ok in
        let z : a.0.serial < k.serial = o.2 in
        let b : k.serial < was.next_serial = serial_below (in_table q m (Renews scheme g) x) (inr h) in
        decided_loses q m (Renews scheme g) x (inr h)
        (subst (λ (ks : Keys). Without (renewed_keys ks q.given.now (made was q.given.now g)) k.serial) (sym a.1) (without_both _ _ k.serial (omega arith) (omega arith)))

  module _ (time number algorithm : ℕ) (w : number_owner (names_of t) number ≡ Some i) (ends : (called t (issue time number algorithm)).outcome.answer.number ≡ DONE) where
    abbrev it : Call
    it = issue time number algorithm

    issues_at : gate t (Some time) ≡ None
    unfolding time_of unchanged refusal refusal_at DONE
    issues_at = passed_gate t (Some time) λ n q. sym (ap (λ (y : Result). y.outcome.answer.number) (refused_first t it n q)) ∙ ends

    abbrev clocked : Table
    clocked = with_clock t time

    w_at : number_owner (names_of clocked) number ≡ Some i
    unfolding names_of with_clock
    w_at = w

    begins : called t it ≡ served clocked it
    unfolding time_of
    begins = passes_first t it issues_at

    -- not refused, as its number is 0
    not_refused : {A : Type 0} (n : ℕ) → served clocked it ≡ unchanged clocked (suc n) → A
    unfolding unchanged refusal refusal_at DONE
    not_refused n q = let z : ◌≡◌ {A = ℕ} 0 (suc n) = sym ends ∙ ap (λ (y : Result). y.outcome.answer.number) (begins ∙ q) in absurd (omega arith)

    issued_rows : (g : Algorithm) → ltb (pair_at clocked i).next_serial 0x1_0000_0000 ≡ true → algorithm_numbered algorithm ≡ Some g → (called t it).table.rows ≡ set t.rows i (record { suffix = suffix_at t i; pair = issued was time g })
    unfolding with_pair with_clock suffix_at pair_at row_at
    issued_rows g a b = ap (λ (y : Result). y.table.rows) (begins ∙ issue_done clocked time number algorithm i w_at g a b)

    replaces : Has was.keys k → Goes t (call it) (suffix_at t i) k
    unfolding SPENT TERM
    replaces h = go (ltb (pair_at clocked i).next_serial 0x1_0000_0000) (algorithm_numbered algorithm) refl refl
      where
        below : i < length t.rows
        below = number_enrolled t time number algorithm i w

        go : (b : Bool) (g : Option Algorithm) → ltb (pair_at clocked i).next_serial 0x1_0000_0000 ≡ b → algorithm_numbered algorithm ≡ g → Goes t (call it) (suffix_at t i) k
        go false g a b = not_refused 10 (issue_spent clocked time number algorithm i w_at a)
        go true None a b = not_refused 12 (issue_term clocked time number algorithm i w_at a b)
        go true (Some g) a b = loses below it (issued was time g) (issued_rows g a b) h (issued_without was time g k.serial (serial_below below h))

  module _ (time number : ℕ) (w : number_owner (names_of t) number ≡ Some i) (ends : (operated t (close time number)).outcome.answer.number ≡ DONE) where
    closes_at : gate t (Some time) ≡ None
    unfolding operated close_on unchanged refusal refusal_at DONE
    closes_at = passed_gate t (Some time) λ n q. sym (ap (λ (g : Option ℕ). (close_passed t time number g).outcome.answer.number) q) ∙ ends

    closed_rows : (operated t (close time number)).table.rows ≡ take i t.rows ++ drop (suc i) t.rows
    unfolding operated close_on closedRow without_row with_clock names_of
    closed_rows = rw (closes_at, w) refl

    closes : Has was.keys k → Goes t (close time number) (suffix_at t i) k
    unfolding names_of suffix_at row_at
    closes h = lost (key_in (number_enrolled t time number 0 i w) h) λ x j m same q _.
        differs _ (none_left t.rows i (number_enrolled t time number 0 i w) (all_distinct t r) (rw closed_rows at m)) same

-- A key stands in a row.
has_below : (t : Table) (i : ℕ) (k : Key) → Has (pair_at t i).keys k → i < length t.rows
unfolding pair_at row_at no_row no_pair
has_below t i k h = go t.rows i h
  where
    go : (rs : List Row) (i : ℕ) → Has (get_or rs i no_row).pair.keys k → i < length rs
    go [] i (inl e) = absurd (none-some k e)
    go [] i (inr e) = absurd (none-some k e)
    go (r ∷ rs) zero h = omega arith
    go (r ∷ rs) (suc i) h = let b : i < length rs = go rs i h in omega arith

pub ways : (t : Table) (i : ℕ) (k : Key) (o : Operation) → table_rules t ≡ true → Gone t i k o → Goes t o (suffix_at t i) k
ways t i k o r (adopted_over q m new x e) = adopts_over t i k r q m new x e
ways t i k o r (deleted q m x h) = deletes t i k r q m x h
ways t i k o r (withdrawn q m x h) = withdraws t i k r q m x h
ways t i k o r (dropped q m scheme g x h) = drops t i k r q m scheme g x h
ways t i k o r (replaced time number algorithm w e h) = replaces t i k r time number algorithm w e h
ways t i k o r (closed time number w e h) = closes t i k r time number w e h
ways t i k o r (judged q s h p e) = outlives t i k r (has_below t i k h) q h p e

-- ── Messages that are signed ────────────────────────────────────────────────────────────────────────────────────────

-- A test that a message is signed with a name and an algorithm.
abbrev signed_by : Signature → List ℕ → Algorithm → Bool
signed_by unsigned name g = false
signed_by misplaced name g = false
signed_by (well_placed x) name g = same_name x.name name && same_name x.algorithm (algorithm_name g)

abbrev pub is_signed : Reading Message → List ℕ → Algorithm → Bool
is_signed (stops place) name g = false
is_signed (reads m end) name g = signed_by (signature m.records) name g

pub signed_with : (octets name : List ℕ) (g : Algorithm) → is_signed (read_message octets) name g ≡ true → SignedWith octets name g
signed_with octets name g = go (read_message octets) refl
  where
    by_tsig : (m : Message) (end : ℕ) → read_message octets ≡ reads m end → (x : Signature) → signature m.records ≡ x → signed_by x name g ≡ true → SignedWith octets name g
    by_tsig m end is unsigned sign e = absurd (false≢true e)
    by_tsig m end is misplaced sign e = absurd (false≢true e)
    by_tsig m end is (well_placed x) sign e =
        let a = same_name x.name name in
        let b = same_name x.algorithm (algorithm_name g) in
        record { read = m; end = end; tsig = x; readings = is; is_signed_lem = sign; name_is_lem = left a b e; algorithm_is = right a b e }

    go : (r : Reading Message) → read_message octets ≡ r → is_signed r name g ≡ true → SignedWith octets name g
    go (stops place) is e = absurd (false≢true e)
    go (reads m end) is e = by_tsig m end is (signature m.records) refl e

-- ── The whole ───────────────────────────────────────────────────────────────────────────────────────────────────────

pub run_append : (t : Table) (os ps : List Operation) → operated_all t (os ++ ps) ≡ operated_all (operated_all t os) ps
unfolding operated_all
run_append t [] ps = refl
run_append t (o ∷ os) ps = run_append (operated t o).table os ps

then_run : (t : Table) (o : Operation) (later : List Operation) → operated_all t (o ∷ later) ≡ operated_all (operated t o).table later
unfolding operated_all
then_run t o later = refl

pub goes_is_gone : GoesIsGone
goes_is_gone time earlier o later s k q g w =
    subst (λ (y : Table). Nothing y q) (sym (run_append (new_table (empty_table 0) time).table earlier (o ∷ later) ∙ then_run t o later))
    (nothing (operated_all u later) s k.serial (run_rules u later (operation_made t o rules).rules) (dead_run u later s k.serial (operation_made t o rules).rules (goes_dead t o s k rules g)) q w.read w.end w.tsig w.readings w.is_signed_lem w.name_is_lem)
  where
    t : Table
    t = after time earlier

    u : Table
    u = (operated t o).table

    rules : table_rules t ≡ true
    rules = last_rules time earlier
