-- Demand 2: over any run from a new table, a loaded or a mended one. Assumes nothing.
use mathlib.Core.Path.{◌≡◌, refl, sym, ap, ap₂, ◌∙◌, subst}
use mathlib.Core.Bool.{Bool, true, false}
use Rattle.std.specs.Prelude.{Option, None, Some}
use Rattle.std.proofs.lemmas.Option.{none-some, same_Some}
use mathlib.Core.Logic.{◌⊎◌, inl, inr}
use mathlib.Core.List.Memᴰ
use mathlib.Core.List.{List, [], ◌∷◌, Memᴰ}
use Prim.Native.Nat.{ℕ, suc, ◌^◌, ◌≤◌, ◌<◌}
use native.Mathlib.Nat.{le_refl}
use native.Mathlib.Omega.{arith}
use lib.Dec.{ltb}
use lib.ListN.{length, get_or, set}
use lib.Seq.{get_or-set_same}
use borrow.Author.Tests.{ltb-true, lt-ltb}
use Rattle.model.specs.declared.Algorithm.{Algorithm}
use Rattle.model.specs.declared.Key.{Key}
use Rattle.model.specs.declared.Keys.{Keys}
use Rattle.model.specs.declared.Keys.TheVariants.{Empty, Adopted, Renewing}
use Rattle.model.specs.declared.Pair.{Pair}
use Rattle.model.specs.declared.Scheme.{Scheme}
use Rattle.model.specs.declared.Scheme.TheVariants.{DiffieHellman, ServerAssignment, ResolverAssignment}
use Rattle.model.specs.declared.Decision.{Decision}
use Rattle.model.specs.declared.Decision.TheVariants.{Renews, Adopts}
use Rattle.model.specs.Octets.{reads}
use Rattle.model.specs.Names.{same_name, key_name}
use Rattle.model.specs.Messages.{Message, read_message}
use Rattle.model.specs.Tsig.{signature}
use Rattle.model.specs.Pairs.{with_keys, made, renewed_keys, renewed, adopted_keys, adopted}
use Rattle.model.specs.Tables.{Row, Table, no_row, row_at, suffix_at, pair_at, with_clock, with_pair, names_of, distinct, serial_rule, clock_rule, table_rules}
use Rattle.model.specs.Judging.{Holder, held_suffix, held_pair, adopted_of, waiting_of, judge, changed}
use Rattle.model.specs.Replies.{granted, renewed_reply, reply_of, granted_reply, second_ok}
use Rattle.model.specs.Calls.{refusal_at, TIME, SIZE, OFFER, NOTQUERY, ROOM, Result, refusal, unchanged, time_fits, empty_table, new_table, size_ok, offer_ok, room_for, reply_to, replied, time_of, signed_by, octets_owner, owner_of, holder_at, served, called, KEYREC}
use Rattle.model.specs.Runs.{Operation, enrol, close, call, operated, operated_all, next_of, suffix_by, suffix_of, key_raised, key_made, listed, names_made, NoneSame, Distinct}
use Rattle.model.proofs.CallLaws.{passes_first, message_size, message_offer, message_response, message_room, message_done, message_keyrec}
use Rattle.guarantees.specs.Freshness.{after, Starts, from_new, from_load, from_mend, Carries, Ask, asks, Decides, fit_serves, Granted, AtOnce, RunsFrom, Demand2}
use Rattle.model.proofs.Tests.{both, not_so, by_check}
use Rattle.model.proofs.Decisions.{Fits, Grantable, Allows, allows}
use Rattle.model.proofs.NameLaws.{same_sym, key_same}
use Rattle.model.proofs.Rows.{at_member, set_has, row_ok, same_next}
use Rattle.model.proofs.Loads.{load_is}
use Rattle.model.proofs.Mends.{mend_sound}
use Rattle.guarantees.proofs.OneCall.{pass_rules}
use Rattle.guarantees.proofs.Made.{key_ok, Held, Event, New, new_name_lem, raised, next_fits, next_row, owner_enrolled, call_made}
use Rattle.guarantees.proofs.Enrolment.{enrol_made}
use Rattle.guarantees.proofs.Closing.{close_made}

-- ── One operation ───────────────────────────────────────────────────────────────────────────────────────────────────

pub operation_made : (t : Table) (o : Operation) → table_rules t ≡ true → Event t (operated t o).table (key_made t o)
unfolding operated suffix_of key_made
operation_made t (enrol time s lifetime fresh algorithm) r = enrol_made s lifetime fresh algorithm t time r
operation_made t (close time number) r = close_made t time number r
operation_made t (call c) r = call_made t c r

pub operation_new : (t : Table) (o : Operation) (name : List ℕ) → key_made t o ≡ Some name → New t (operated t o).table name
unfolding key_made
operation_new t o name e = new_name_lem t (operated t o).table (suffix_of t o) name e

-- ── Names that were made, and names that were not ───────────────────────────────────────────────────────────────────

-- A serial that is below the next one of its suffix, and one that is not. (A serial has at most 32 bits, else a label would not hold it.)
record Used (t : Table) (name : List ℕ) : Type 0 where
  suffix : List ℕ
  serial : ℕ
  is : name ≡ key_name serial suffix
  fits : serial < 2 ^ 32
  given : serial < next_of t suffix

record Fresh (t : Table) (name : List ℕ) : Type 0 where
  suffix : List ℕ
  serial : ℕ
  is : name ≡ key_name serial suffix
  fits : serial < 2 ^ 32
  left : next_of t suffix ≤ serial

-- They are not the same, compared without regard to case.
never_same : (t : Table) (a b : List ℕ) → Used t a → Fresh t b → same_name a b ≡ false
unfolding next_of
never_same t a b u f = not_so (same_name a b) λ e.
    let k = key_same u.serial f.serial u.suffix f.suffix u.fits f.fits (ap₂ same_name (sym u.is) (sym f.is) ∙ e) in
    let n : next_of t u.suffix ≡ next_of t f.suffix = same_next t.rows _ u.suffix f.suffix k.1 in
    let s : u.serial ≡ f.serial = k.0 in
    omega (arith, u.given, f.left)

used_then : (t u : Table) (made : Option (List ℕ)) (n : List ℕ) → Event t u made → Used t n → Used u n
used_then t u made n v w = record { suffix = w.suffix; serial = w.serial; is = w.is; fits = w.fits; given = omega (arith, w.given, v.onward w.suffix) }

fresh_before : (t u : Table) (made : Option (List ℕ)) (n : List ℕ) → Event t u made → Fresh u n → Fresh t n
fresh_before t u made n v w = record { suffix = w.suffix; serial = w.serial; is = w.is; fits = w.fits; left = omega (arith, w.left, v.onward w.suffix) }

-- A name that is made was fresh before, and is used then.
module _ (t u : Table) (n : List ℕ) (r : table_rules u ≡ true) (w : New t u n) where
  was_fresh : Fresh t n
  was_fresh =
      let b : next_of u w.suffix ≤ 2 ^ 32 = next_fits u r w.suffix in
      record { suffix = w.suffix; serial = next_of t w.suffix; is = w.is; fits = omega (arith, w.more); left = le_refl _ }

  is_used : Used u n
  is_used =
      let b : next_of u w.suffix ≤ 2 ^ 32 = next_fits u r w.suffix in
      record { suffix = w.suffix; serial = next_of t w.suffix; is = w.is; fits = omega (arith, w.more); given = w.more }

-- ── Runs ────────────────────────────────────────────────────────────────────────────────────────────────────────────

abbrev AllFresh : Table → List (List ℕ) → Type 0
AllFresh t [] = Unit {0}
AllFresh t (n ∷ ns) = Fresh t n × AllFresh t ns

abbrev AllUsed : Table → List (List ℕ) → Type 0
AllUsed t [] = Unit {0}
AllUsed t (n ∷ ns) = Used t n × AllUsed t ns

all_before : (t u : Table) (made : Option (List ℕ)) (ns : List (List ℕ)) → Event t u made → AllFresh u ns → AllFresh t ns
all_before t u made [] v f = tt
all_before t u made (n ∷ ns) v f = (fresh_before t u made n v f.0, all_before t u made ns v f.1)

none_same : (t : Table) (n : List ℕ) (ns : List (List ℕ)) → Used t n → AllFresh t ns → NoneSame n ns
none_same t n [] u f = tt
none_same t n (m ∷ ns) u f = (never_same t n m u f.0, none_same t n ns u f.1)

fresh_none : (t : Table) (n : List ℕ) (ns : List (List ℕ)) → Fresh t n → AllUsed t ns → NoneSame n ns
fresh_none t n [] f u = tt
fresh_none t n (m ∷ ns) f u = (same_sym n m ∙ never_same t m n u.0 f, fresh_none t n ns f u.1)

-- all names that a run makes are fresh before it; no two are the same; all are used after it
all_fresh : (t : Table) (os : List Operation) → table_rules t ≡ true → AllFresh t (names_made t os)
unfolding names_made
all_fresh t [] r = tt
all_fresh t (o ∷ os) r = go (key_made t o) refl (operation_made t o r) (all_fresh (operated t o).table os)
  where
    u : Table
    u = (operated t o).table

    go : (made : Option (List ℕ)) → key_made t o ≡ made → Event t u made → (table_rules u ≡ true → AllFresh u (names_made u os)) → AllFresh t (listed made (names_made u os))
    go None e v f = all_before t u None (names_made u os) v (f v.rules)
    go (Some n) e v f = (was_fresh t u n v.rules (operation_new t o n e), all_before t u (Some n) (names_made u os) v (f v.rules))

all_distinct : (t : Table) (os : List Operation) → table_rules t ≡ true → Distinct (names_made t os)
unfolding names_made
all_distinct t [] r = tt
all_distinct t (o ∷ os) r = go (key_made t o) refl (operation_made t o r) (all_distinct (operated t o).table os)
  where
    u : Table
    u = (operated t o).table

    go : (made : Option (List ℕ)) → key_made t o ≡ made → Event t u made → (table_rules u ≡ true → Distinct (names_made u os)) → Distinct (listed made (names_made u os))
    go None e v f = f v.rules
    go (Some n) e v f = (none_same u n (names_made u os) (is_used t u n v.rules (operation_new t o n e)) (all_fresh u os v.rules), f v.rules)

used_on : (t : Table) (os : List Operation) (n : List ℕ) → table_rules t ≡ true → Used t n → Used (operated_all t os) n
unfolding operated_all
used_on t [] n r w = w
used_on t (o ∷ os) n r w = let v = operation_made t o r in used_on (operated t o).table os n v.rules (used_then t (operated t o).table (key_made t o) n v w)

all_used : (t : Table) (os : List Operation) → table_rules t ≡ true → AllUsed (operated_all t os) (names_made t os)
unfolding operated_all names_made
all_used t [] r = tt
all_used t (o ∷ os) r = go (key_made t o) refl (operation_made t o r) (all_used (operated t o).table os)
  where
    u : Table
    u = (operated t o).table

    go : (made : Option (List ℕ)) → key_made t o ≡ made → Event t u made → (table_rules u ≡ true → AllUsed (operated_all u os) (names_made u os)) → AllUsed (operated_all u os) (listed made (names_made u os))
    go None e v f = f v.rules
    go (Some n) e v f = (used_on u os n v.rules (is_used t u n v.rules (operation_new t o n e)), f v.rules)

pub run_rules : (t : Table) (os : List Operation) → table_rules t ≡ true → table_rules (operated_all t os) ≡ true
unfolding operated_all
run_rules t [] r = r
run_rules t (o ∷ os) r = run_rules (operated t o).table os (operation_made t o r).rules

-- ── Every key was made ──────────────────────────────────────────────────────────────────────────────────────────────

-- a key after a run: the table had one of that serial and suffix, or the run made its name
comes : (t : Table) (os : List Operation) → table_rules t ≡ true → (s : List ℕ) (n x : ℕ) → Held (operated_all t os) s n x → Held t s n x ⊎ Memᴰ (key_name n s) (names_made t os)
unfolding operated_all names_made
comes t [] r s n x h = inl h
comes t (o ∷ os) r s n x h = go (key_made t o) (operation_made t o r) (λ q. comes (operated t o).table os q s n x h)
  where
    u : Table
    u = (operated t o).table

    later : (made : Option (List ℕ)) → Memᴰ (key_name n s) (names_made u os) → Memᴰ (key_name n s) (listed made (names_made u os))
    later None m = m
    later (Some y) m = Memᴰ.tail m

    first : (made : Option (List ℕ)) → made ≡ Some (key_name n s) → Memᴰ (key_name n s) (listed made (names_made u os))
    first None e = absurd (none-some _ e)
    first (Some y) e = Memᴰ.head (sym (same_Some y _ e))

    go : (made : Option (List ℕ)) → Event t u made → (table_rules u ≡ true → Held u s n x ⊎ Memᴰ (key_name n s) (names_made u os)) → Held t s n x ⊎ Memᴰ (key_name n s) (listed made (names_made u os))
    go made v f = by_rest (f v.rules)
      where
        by_origin : Held t s n x ⊎ (made ≡ Some (key_name n s)) → Held t s n x ⊎ Memᴰ (key_name n s) (listed made (names_made u os))
        by_origin (inl w) = inl w
        by_origin (inr e) = inr (first made e)

        by_rest : Held u s n x ⊎ Memᴰ (key_name n s) (names_made u os) → Held t s n x ⊎ Memᴰ (key_name n s) (listed made (names_made u os))
        by_rest (inl w) = by_origin (v.origin s n x w)
        by_rest (inr m) = inr (later made m)

new_empty : (time : ℕ) → (new_table (empty_table 0) time).table.rows ≡ []
unfolding new_table empty_table unchanged
new_empty time = by_check (λ (r : Result). r.table.rows ≡ []) (unchanged (empty_table 0)) TIME refl (time_fits time) (λ e. refl)

new_rules : (time : ℕ) → table_rules (new_table (empty_table 0) time).table ≡ true
unfolding new_table empty_table unchanged table_rules names_of distinct serial_rule clock_rule time_fits
new_rules time =
    by_check (λ (r : Result). table_rules r.table ≡ true) (unchanged (empty_table 0)) TIME refl (ltb time 0xffff_8000_0000) λ e.
    let h : time < 0xffff_8000_0000 = ltb-true _ _ e in
    both _ _ (lt-ltb time 0x1_0000_0000_0000 (omega arith)) refl

carried : {t : Table} {name : List ℕ} (c : Carries t name) → Held t c.row.suffix c.key.serial c.key.expiry
carried c = record { row = c.row; there = c.there; suffix_is = refl; key = c.key; has = c.has; serial_is = refl; expiry_is = refl }

every_key : (t : Table) → table_rules t ≡ true → (os : List Operation) (name : List ℕ) → Carries (operated_all t os) name → Carries t name ⊎ Memᴰ name (names_made t os)
every_key t r os name c = go (comes t os r c.row.suffix c.key.serial c.key.expiry (carried c))
  where
    go : Held t c.row.suffix c.key.serial c.key.expiry ⊎ Memᴰ (key_name c.key.serial c.row.suffix) (names_made t os) → Carries t name ⊎ Memᴰ name (names_made t os)
    go (inl w) = inl (record { row = w.row; key = w.key; there = w.there; has = w.has; is = c.is ∙ ap₂ key_name (sym w.serial_is) (sym w.suffix_is) })
    go (inr m) = inr (rw c.is m)

-- The name of a key that a table holds is used.
held_used : (t : Table) → table_rules t ≡ true → (name : List ℕ) → Carries t name → Used t name
held_used t r name c =
    let o = row_ok t r c.there in
    let b = (key_ok _ _ _ c.row.pair.keys c.key o.keys_ok c.has).below in
    let n = next_row t r c.there in
    record { suffix = c.row.suffix; serial = c.key.serial; is = c.is; fits = omega (arith, o.last, b); given = omega (arith, n, b) }

-- ── Where a run starts ──────────────────────────────────────────────────────────────────────────────────────────────

new_holds_none : (time : ℕ) (name : List ℕ) → ¬ Carries (new_table (empty_table 0) time).table name
new_holds_none time name c = Memᴰ.not-nil (rw (new_empty time) at c.there)

starts_rules : (t : Table) → Starts t → table_rules t ≡ true
starts_rules t (from_new time e) = ap table_rules e ∙ new_rules time
starts_rules t (from_load s e) = (load_is s t e).rules
starts_rules t (from_mend s ds e) = (mend_sound s t ds e).rules

-- ── A message call that is done ─────────────────────────────────────────────────────────────────────────────────────

-- The row that a message belongs to, by its TSIG.
owner_row : (t : Table) (q : Ask) (i : ℕ) (m : Message) (end : ℕ) → size_ok q.octets ≡ true → read_message q.octets ≡ reads m end → owner_of (names_of t) (asks q) ≡ Some i → signed_by (names_of t) (signature m.records) ≡ Some i
unfolding owner_of octets_owner
owner_row t q i m end s r e = rw (s, r) at e

held_is : (t : Table) (i : ℕ) → held_pair (holder_at t i) ≡ pair_at t i
unfolding held_pair holder_at
held_is t i = refl

module _ (t : Table) (q : Ask) (i : ℕ) (m : Message) (d : Decision) (x : Decides t q i m d) where
  -- not refused, as its number is 0
  not_refused : {A : Type 0} (u : Table) (n : ℕ) → called t (asks q) ≡ unchanged u (suc n) → A
  unfolding unchanged refusal refusal_at
  not_refused u n e = let z : ◌≡◌ {A = ℕ} 0 (suc n) = sym x.finished ∙ ap (λ (r : Result). r.outcome.answer.number) e in absurd (omega arith)

  abbrev now : ℕ
  now = q.given.now

  abbrev at : Table
  at = with_clock t now

  begins : called t (asks q) ≡ served at (asks q)
  unfolding time_of
  begins = passes_first t (asks q) x.passes

  sized : size_ok q.octets ≡ true
  unfolding SIZE
  sized = go (size_ok q.octets) refl
    where
      go : (b : Bool) → size_ok q.octets ≡ b → b ≡ true
      go true e = refl
      go false e = not_refused _ 3 (begins ∙ message_size at q.given q.room q.octets e)

  offered : offer_ok q.given.offer ≡ true
  unfolding OFFER
  offered = go (offer_ok q.given.offer) refl
    where
      go : (b : Bool) → offer_ok q.given.offer ≡ b → b ≡ true
      go true e = refl
      go false e = not_refused _ 4 (begins ∙ message_offer at q.given q.room q.octets sized e)

  query : m.response ≡ false
  unfolding NOTQUERY
  query = go m.response refl
    where
      go : (b : Bool) → m.response ≡ b → b ≡ false
      go false e = refl
      go true e = not_refused _ 6 (begins ∙ message_response at q.given q.room q.octets sized offered m x.end x.readings e)

  row_is : signed_by (names_of (with_clock t now)) (signature m.records) ≡ Some i
  unfolding names_of with_clock
  row_is = owner_row t q i m x.end sized x.readings x.owner

  same_held : holder_at (with_clock t now) i ≡ holder_at t i
  unfolding holder_at with_clock suffix_at pair_at row_at
  same_held = refl

  lent : second_ok (judge (holder_at (with_clock t now) i) q.given m).decision q.given.second ≡ true
  unfolding KEYREC
  lent = go (second_ok (judge (holder_at (with_clock t now) i) q.given m).decision q.given.second) refl
    where
      go : (b : Bool) → second_ok (judge (holder_at (with_clock t now) i) q.given m).decision q.given.second ≡ b → b ≡ true
      go true e = refl
      go false e = not_refused _ 18 (begins ∙ message_keyrec at q.given q.room q.octets sized offered m x.end x.readings query (Some i) row_is e)

  -- the lent record serves the decision
  pub is_lent : second_ok d q.given.second ≡ true
  is_lent = subst (λ (e : Decision). second_ok e q.given.second ≡ true) (ap (λ (h : Holder). (judge h q.given m).decision) same_held ∙ x.decided) lent

  roomy : room_for q.room (reply_to (holder_at (with_clock t now) i) q.given m) ≡ true
  unfolding ROOM
  roomy = go (room_for q.room (reply_to (holder_at (with_clock t now) i) q.given m)) refl
    where
      go : (b : Bool) → room_for q.room (reply_to (holder_at (with_clock t now) i) q.given m) ≡ b → b ≡ true
      go true e = refl
      go false e = not_refused _ 7 (begins ∙ message_room at q.given q.room q.octets sized offered m x.end x.readings query (Some i) row_is lent e)

  -- the pair becomes what the decision makes of it, and the reply is the decision's
  pub is_done : called t (asks q) ≡ record { table = with_pair (with_clock t now) i (changed d now (pair_at t i)); outcome = (replied (holder_at t i) q.given (judge (holder_at t i) q.given m) (reply_of (holder_at t i) q.given m d)).outcome }
  unfolding reply_to
  is_done =
      begins
      ∙ message_done at q.given q.room q.octets sized offered m x.end x.readings query (Some i) row_is lent roomy
      ∙ ap (λ (h : Holder). record { table = with_pair (with_clock t now) i (changed (judge h q.given m).decision now (held_pair h)); outcome = (replied h q.given (judge h q.given m) (reply_of h q.given m (judge h q.given m).decision)).outcome }) same_held
      ∙ ap₂ (λ (e : Decision) (p : Pair). record { table = with_pair (with_clock t now) i (changed e now p); outcome = (replied (holder_at t i) q.given (judge (holder_at t i) q.given m) (reply_of (holder_at t i) q.given m e)).outcome }) x.decided (held_is t i)

-- ── Renewal and adoption ────────────────────────────────────────────────────────────────────────────────────────────

waits_now : (ks : Keys) (now : ℕ) (new a : Key) → adopted_of ks ≡ Some a → waiting_of (renewed_keys ks now new) ≡ Some new
unfolding renewed_keys
waits_now Empty now new a e = absurd (none-some a e)
waits_now (Adopted k) now new a e = refl
waits_now (Renewing k w) now new a e = refl

pub waiting_is : (ks : Keys) (w : Key) → waiting_of ks ≡ Some w → (a : Key) × (ks ≡ Renewing a w)
waiting_is Empty w e = absurd (none-some w e)
waiting_is (Adopted a) w e = absurd (none-some w e)
waiting_is (Renewing a v) w e = (a, ap (Renewing a) (same_Some v w e))

next_more : (p : Pair) (now : ℕ) (scheme : Scheme) (g : Algorithm) → p.next_serial < (changed (Renews scheme g) now p).next_serial
unfolding changed renewed with_keys
next_more p now scheme g = omega arith

-- The next serial of the suffix of row i is the row's.
next_at : (t : Table) → table_rules t ≡ true → (i : ℕ) → i < length t.rows → next_of t (suffix_at t i) ≡ (pair_at t i).next_serial
unfolding suffix_at pair_at row_at
next_at t r i h = next_row t r (at_member t.rows i no_row h)

pub last_rules : (time : ℕ) (os : List Operation) → table_rules (after time os) ≡ true
last_rules time os = run_rules (new_table (empty_table 0) time).table os (new_rules time)

-- the verdict serves the scheme
fit_so : (scheme : Scheme) (fits : Bool) → Fits scheme fits → fit_serves scheme fits ≡ true
fit_so DiffieHellman fits e = e
fit_so ServerAssignment fits e = refl
fit_so ResolverAssignment fits e = e

module _ (t : Table) (q : Ask) (i : ℕ) (m : Message) where
  abbrev moment : ℕ
  moment = q.given.now

  abbrev pair : Pair
  pair = pair_at t i

  module _ (d : Decision) (x : Decides t q i m d) where
    below : i < length t.rows
    below = owner_enrolled t (asks q) i x.owner

    rests : Allows q.given m pair d
    rests = subst (λ (e : Decision). Allows q.given m pair e) x.decided (subst (λ (p : Pair). Allows q.given m p (judge (holder_at t i) q.given m).decision) (held_is t i) (allows (holder_at t i) q.given m))

    abbrev then : Row
    then = record { suffix = suffix_at t i; pair = changed d moment pair }

    rows_then : (called t (asks q)).table.rows ≡ set t.rows i then
    unfolding with_pair with_clock suffix_at row_at
    rows_then = ap (λ (r : Result). r.table.rows) (is_done t q i m d x)

    pair_then : pair_at (called t (asks q)).table i ≡ changed d moment pair
    unfolding pair_at row_at
    pair_then = ap (λ (l : List Row). (get_or l i no_row).pair) rows_then ∙ ap (λ (r : Row). r.pair) (get_or-set_same t.rows i then no_row below)

    next_then : table_rules (called t (asks q)).table ≡ true → next_of (called t (asks q)).table (suffix_at t i) ≡ (changed d moment pair).next_serial
    next_then r = next_row (called t (asks q)).table r {x = then} (rw rows_then (set_has t.rows i then below))

    reply_then : (called t (asks q)).outcome.reply ≡ reply_of (holder_at t i) q.given m d
    unfolding replied
    reply_then = ap (λ (r : Result). r.outcome.reply) (is_done t q i m d x)

  adopts : Decides t q i m Adopts → AtOnce t (called t (asks q)).table i
  unfolding changed adopted with_keys adopted_keys
  adopts x =
      let w = (rests Adopts x).allowed in
      let k = waiting_is pair.keys w.0 w.1 in
      record { old = k.0; new = w.0; before = k.1; then_only = ap (λ (p : Pair). p.keys) (pair_then Adopts x) ∙ ap adopted_keys k.1 }

  module _ (scheme : Scheme) (g : Algorithm) (x : Decides t q i m (Renews scheme g)) where
    abbrev new : Key
    new = made pair moment g

    abbrev name : List ℕ
    name = key_name new.serial (suffix_at t i)

    grant : Grantable q.given m pair scheme
    grant = (rests (Renews scheme g) x).allowed

    rules_now : table_rules t ≡ true
    rules_now = pass_rules t (Some moment) x.passes

    rules_then : table_rules (called t (asks q)).table ≡ true
    unfolding operated
    rules_then = (operation_made t (call (asks q)) rules_now).rules

    raised_name : key_made t (call (asks q)) ≡ Some name
    unfolding key_made suffix_of operated made
    raised_name =
        ap (λ (o : Option ℕ). key_raised t (called t (asks q)).table (suffix_by t o)) x.owner
        ∙ raised t (called t (asks q)).table (suffix_at t i) _ _ (next_at t rules_now i (below (Renews scheme g) x)) (next_then (Renews scheme g) x rules_then) (next_more pair moment scheme g)

    waiting_new : waiting_of (pair_at (called t (asks q)).table i).keys ≡ Some new
    unfolding changed renewed with_keys
    waiting_new = ap (λ (p : Pair). waiting_of p.keys) (pair_then (Renews scheme g) x) ∙ waits_now pair.keys moment new grant.signer grant.is_signer

    renews : Granted t q i m scheme g
    unfolding reply_of renewed_reply granted_reply granted changed held_suffix held_pair holder_at operated
    renews = record {
      tkey = grant.tkey;
      key_record = grant.key_record;
      is_tkey_lem = grant.is_tkey_lem;
      is_mode_lem = grant.is_mode_lem;
      is_key_lem = grant.is_key_lem;
      is_fit = fit_so scheme q.given.fits grant.fits;
      offered = grant.offered;
      is_lent = is_lent t q i m (Renews scheme g) x;
      pair_is = pair_then (Renews scheme g) x;
      waiting = waiting_new;
      name = name;
      is_name = refl;
      is_made = raised_name;
      says = reply_then (Renews scheme g) x ∙ rw (grant.is_tkey_lem, grant.is_key_lem) refl;
    }

module _
    (start : Table) (rules : table_rules start ≡ true) (os : List Operation) (q : Ask) (i : ℕ) (m : Message) (scheme : Scheme) (g : Algorithm)
    (x : Decides (operated_all start os) q i m (Renews scheme g)) where
  abbrev reached : Table
  reached = operated_all start os

  abbrev its-name : List ℕ
  its-name = (renews reached q i m scheme g x).name

  was_new : Fresh reached its-name
  unfolding operated renews key_name
  was_new = was_fresh reached (called reached (asks q)).table its-name (rules_then reached q i m scheme g x) (operation_new reached (call (asks q)) its-name (raised_name reached q i m scheme g x))

  never_before : NoneSame its-name (names_made start os)
  never_before = fresh_none reached its-name (names_made start os) was_new (all_used start os rules)

  never_held : (held : List ℕ) → Carries start held → same_name held its-name ≡ false
  never_held held c = never_same reached held its-name (used_on start os held rules (held_used start rules held c)) was_new

runs_from : (t : Table) → table_rules t ≡ true → RunsFrom t
runs_from t r = record {
  no_name_twice = λ os. all_distinct t os r;
  none_held = λ os held c. none_same t held (names_made t os) (held_used t r held c) (all_fresh t os r);
  every_key_made = every_key t r;
  rules_kept = λ os. run_rules t os r;
}

pub demand2 : Demand2
demand2 = record {
  runs = λ t s. runs_from t (starts_rules t s);
  new_none = new_holds_none;
  renewal_grants = renews;
  renewal_new = λ t s. never_before t (starts_rules t s);
  renewal_not_held = λ t s. never_held t (starts_rules t s);
  adopts_at_once = adopts;
}
