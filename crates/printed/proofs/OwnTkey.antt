-- Our replies with a TKEY are read back too, as the names of records that were read are wire names when written out (02, CR 12). Assumes nothing.
use Prim.Native.Nat.{ℕ, suc, ◌+◌, ◌%◌, ◌≤◌}
use mathlib.Core.Path.{◌≡◌, refl, sym, subst}
use mathlib.Core.Bool.{Bool, true, false, cond}
use Rattle.std.specs.Prelude.{Option, None, Some}
use mathlib.Core.Logic.{◌⊎◌, inl, inr}
use mathlib.Core.List.{List, [], ◌∷◌, ◌++◌, append-nil, append_assoc}
use lib.Dec.{ltb, eqb}
use lib.ListN.{length}
use Rattle.model.specs.Octets.{u16_at, part, Reading, stops, reads}
use Rattle.model.specs.declared.Algorithm.{Algorithm}
use Rattle.model.specs.declared.Scheme.{Scheme}
use Rattle.model.specs.declared.Scheme.TheVariants.{DiffieHellman, ServerAssignment, ResolverAssignment}
use Rattle.model.specs.declared.Decision.{Decision}
use Rattle.model.specs.declared.Decision.TheVariants.{Unsigned, Refused, Passed, Failed, Renews, Adopts, Readopts, Deletes, Withdraws}
use Rattle.model.specs.Names.{read_plain, wire_name, key_name}
use Rattle.model.specs.Messages.{Question, Record, Message, is_additional, cons_if, of_type, additional, read_message}
use Rattle.model.specs.Tsig.{any_class}
use Rattle.model.specs.Tkey.{Tkey, Old, tkey_type, key_type, old_of, tkey_with, tkey_other, tkey_key, tkey_times, tkey_named, tkey_of, only, placed_tkey, only_tkey, only_key, is_key_record}
use Rattle.model.specs.Pairs.{made}
use Rattle.model.specs.Judging.{Holder, held_suffix, held_pair, Given}
use Rattle.model.specs.Replies.{heading, tkey_data, tkey_record, repeated, key_data, granted, lends, answers_of, behind, echoed, rcode_reply, with_tkey, with_key, tkey_reply, readopted_reply, granted_reply, renewed_reply, reply_of, second_ok}
use Rattle.model.specs.Compare.{Placed, Each, Proper, AllOctets}
use Rattle.model.proofs.Tests.{either}
use Rattle.model.proofs.CompareRead.{ShowsRecord, laid}
use Rattle.printed.specs.Printed.{Entry, AllRead, all_octets}
use Rattle.printed.proofs.Records.{entry, record_read, key_read}
use Rattle.printed.proofs.Expanded.{name_wire}
use Rattle.printed.proofs.Own.{reply_proper, rcode_proper}

-- ── Owners are wire names ───────────────────────────────────────────────────────────────────────────────────────────

abbrev pub Owners : List Record → Type 0
Owners [] = Unit {0}
Owners (r ∷ rs) = (wire_name r.owner ≡ true) × Owners rs

shown_owners : (x : List ℕ) (k : ℕ) (rs : List Record) (fs : List (List Placed)) → Each (ShowsRecord x k) rs fs → Owners rs
shown_owners x k [] fs e = tt
shown_owners x k (r ∷ rs) [] e = absurd e
shown_owners x k (r ∷ rs) (f ∷ fs) e = (name_wire x e.0.at r.owner e.0.next e.0.named, shown_owners x k rs fs e.1)

owners_append : (rs ss : List Record) → Owners rs → Owners ss → Owners (rs ++ ss)
owners_append [] ss p q = q
owners_append (r ∷ rs) ss p q = (p.0, owners_append rs ss p.1 q)

pub owners : (x : List ℕ) (m : Message) (end : ℕ) → read_message x ≡ reads m end → Owners m.records
owners x m end e =
    let l = laid x m end e in
    subst Owners (sym l.records)
    (owners_append l.answers (l.authority ++ l.extra) (shown_owners x 1 l.answers l.answering l.records₁)
    (owners_append l.authority l.extra (shown_owners x 2 l.authority l.standing l.records₂) (shown_owners x 3 l.extra l.adding l.records₃)))

typed_owners : (t : ℕ) (rs : List Record) → Owners rs → Owners (of_type t rs)
unfolding of_type
typed_owners t [] o = tt
typed_owners t (r ∷ rs) o = go (eqb r.type t) (typed_owners t rs o.1)
  where
    go : (b : Bool) → Owners (of_type t rs) → Owners (cons_if b r (of_type t rs))
    go true p = (o.0, p)
    go false p = p

-- ── The only TKEY ───────────────────────────────────────────────────────────────────────────────────────────────────

-- a TKEY that a record holds has that record's owner for its name
abbrev Owned : List ℕ → Option Tkey → Type 0
Owned owner None = Unit {0}
Owned owner (Some k) = k.name ≡ owner

with_owned : (r : Record) (algorithm : List ℕ) (at : ℕ) (other : List ℕ) (o : Option Old) → Owned r.owner (tkey_with r algorithm at other o)
with_owned r algorithm at other None = tt
with_owned r algorithm at other (Some old) = refl

named_owned : (r : Record) (n : Reading (List ℕ)) → Owned r.owner (tkey_named r n)
unfolding tkey_times tkey_key tkey_other
named_owned r (stops place) = tt
named_owned r (reads algorithm at) =
    let c = r.content in
    let tail = at + 14 + u16_at c (at + 12) in
    either (Owned r.owner) (ltb (length c) (at + 14)) (λ _. tt) λ _.
    either (Owned r.owner) (ltb (length c) (tail + 2)) (λ _. tt) λ _.
    either (Owned r.owner) (eqb (tail + 2 + u16_at c tail) (length c))
    (λ _. with_owned r algorithm at (part c (tail + 2) (u16_at c tail)) (old_of (u16_at c (at + 8)) (part c (tail + 2) (u16_at c tail)))) (λ _. tt)

abbrev Wired : Option Tkey → Type 0
Wired None = Unit {0}
Wired (Some k) = wire_name k.name ≡ true

wired : (owner : List ℕ) (o : Option Tkey) → wire_name owner ≡ true → Owned owner o → Wired o
wired owner None w e = tt
wired owner (Some k) w e = rw e w

placed_wired : (rs : List Record) → Owners rs → Wired (placed_tkey (only rs))
unfolding tkey_of
placed_wired [] o = tt
placed_wired (r ∷ []) o = either Wired (is_additional r) (λ _. wired r.owner (tkey_of r) o.0 (named_owned r (read_plain r.content 0))) (λ _. tt)
placed_wired (r ∷ s ∷ rs) o = tt

only_wired : (m : Message) → Owners m.records → Wired (only_tkey m)
unfolding only_tkey
only_wired m o = placed_wired (of_type tkey_type m.records) (typed_owners tkey_type m.records o)

-- ── Every reply ─────────────────────────────────────────────────────────────────────────────────────────────────────

added_owners : (rs : List Record) → Owners rs → Owners (additional rs)
unfolding additional
added_owners [] o = tt
added_owners (r ∷ rs) o = go (is_additional r) (added_owners rs o.1)
  where
    go : (b : Bool) → Owners (additional rs) → Owners (cons_if b r (additional rs))
    go true p = (o.0, p)
    go false p = p

abbrev Kept : Option Record → Type 0
Kept None = Unit {0}
Kept (Some r) = wire_name r.owner ≡ true

only_kept : (rs : List Record) → Owners rs → Kept (only rs)
only_kept [] o = tt
only_kept (r ∷ []) o = o.0
only_kept (r ∷ s ∷ rs) o = tt

key_kept : (m : Message) → Owners m.records → Kept (only_key m)
unfolding only_key
key_kept m o = only_kept (of_type key_type (additional m.records)) (typed_owners key_type (additional m.records) (added_owners m.records o))

-- No reply, or one that reads, where it fits.
abbrev pub Sound : List ℕ → Type 0
Sound r = length r ≤ 65535 → (r ≡ []) ⊎ Proper r

module _ (x : List ℕ) (o : AllOctets x) (m : Message) (end : ℕ) (says : read_message x ≡ reads m end) (q : Question) (one : m.questions ≡ q ∷ []) where
  -- one TKEY in the answer section, and what else is added
  tkey_sound : (name content : List ℕ) → wire_name name ≡ true → Sound (heading m 0 1 0 ++ tkey_record name content)
  unfolding tkey_record
  tkey_sound name content w fits =
      let e = entry name tkey_type any_class 0 content in
      let same : heading m 0 1 0 ++ ((e.octets ++ []) ++ []) ≡ heading m 0 1 0 ++ e.octets = rw (append-nil e.octets, append-nil e.octets) refl in
      inr (rw same at (reply_proper x o m end says q one 0 (e ∷ []) [] (record_read name tkey_type any_class 0 content w, tt) tt (rw same fits)))

  repeated_sound : (f : Tkey → List ℕ) (error : ℕ) (k : Option Tkey) → Wired k → Sound (with_tkey (λ k. heading m 0 1 0 ++ repeated k error (f k)) k)
  unfolding repeated
  repeated_sound f error None w fits = inl refl
  repeated_sound f error (Some k) w fits = tkey_sound k.name (tkey_data k.algorithm k.inception k.expiration k.mode error k.key (f k)) w fits

  -- behind the TKEY other answers, and one additional record
  both_sound : (name content : List ℕ) (r : Record) (more : List Entry) → wire_name name ≡ true → wire_name r.owner ≡ true → AllRead more
      → Sound (heading m 0 (suc (length more)) 1 ++ (tkey_record name content ++ (all_octets more ++ echoed r)))
  unfolding tkey_record echoed
  both_sound name content r more w v h fits =
      let e = entry name tkey_type any_class 0 content in
      let d = entry r.owner r.type r.class r.ttl r.content in
      let same : heading m 0 (suc (length more)) 1 ++ ((e.octets ++ all_octets more) ++ (d.octets ++ [])) ≡ heading m 0 (suc (length more)) 1 ++ (e.octets ++ (all_octets more ++ d.octets)) =
      rw (append-nil d.octets, append_assoc e.octets (all_octets more) d.octets) refl
      in
      inr
      (rw same at
      (reply_proper x o m end says q one 0 (e ∷ more) (d ∷ []) (record_read name tkey_type any_class 0 content w, h) (record_read r.owner r.type r.class r.ttl r.content v, tt) (rw same fits)))

  -- what stands behind the TKEY of a granted renewal
  lent_sound : (scheme : Scheme) (name content second : List ℕ) (r : Record) → wire_name name ≡ true → wire_name r.owner ≡ true → cond (lends scheme) (is_key_record second) true ≡ true
      → Sound (heading m 0 (answers_of scheme) 1 ++ (tkey_record name content ++ (behind scheme second ++ echoed r)))
  unfolding lends answers_of behind
  lent_sound DiffieHellman name content second r w v k =
      let l = key_read second k in
      let e : Entry = record { octets = second; shown = λ section. record { section = section; owner = l.owner; type = key_type; class = l.class; ttl = l.ttl; content = l.content } } in
      rw (append-nil second) at (both_sound name content r (e ∷ []) w v (l.says, tt))
  lent_sound ServerAssignment name content second r w v k = both_sound name content r [] w v tt
  lent_sound ResolverAssignment name content second r w v k = both_sound name content r [] w v tt

  renewed_sound : (h : Holder) (g : Given) (scheme : Scheme) (a : Algorithm) → wire_name (key_name (made (held_pair h) g.now a).serial (held_suffix h)) ≡ true
      → cond (lends scheme) (is_key_record g.second) true ≡ true
      → (k : Option Tkey) (r : Option Record) → Kept r
      → Sound (with_tkey (λ k. with_key (λ r. granted_reply m g scheme k r (held_suffix h) (made (held_pair h) g.now a)) r) k)
  unfolding granted_reply granted
  renewed_sound h g scheme a w s None r v fits = inl refl
  renewed_sound h g scheme a w s (Some k) None v fits = inl refl
  renewed_sound h g scheme a w s (Some k) (Some r) v fits =
      let new = made (held_pair h) g.now a in
      lent_sound scheme (key_name new.serial (held_suffix h)) (tkey_data k.algorithm (new.inception % 4294967296) (new.expiry % 4294967296) k.mode 0 (key_data scheme k g.offer) k.other) g.second r w v s fits

  rcode_sound : (rcode : ℕ) → Sound (rcode_reply m rcode)
  rcode_sound rcode fits = inr (rcode_proper x o m end says q one rcode fits)

  -- Whatever was decided, our reply to a message with one question is empty or reads, where the name of a key made is a wire name and the lent record serves.
  pub replies_read : (h : Holder) (g : Given) (d : Decision)
      → ((scheme : Scheme) (a : Algorithm) → d ≡ Renews scheme a → wire_name (key_name (made (held_pair h) g.now a).serial (held_suffix h)) ≡ true)
      → second_ok d g.second ≡ true → length (reply_of h g m d) ≤ 65535 → (reply_of h g m d ≡ []) ⊎ Proper (reply_of h g m d)
  unfolding reply_of tkey_reply readopted_reply renewed_reply second_ok
  replies_read h g Unsigned w s fits = inl refl
  replies_read h g (Refused rcode error) w s fits = rcode_sound rcode fits
  replies_read h g (Passed skew) w s fits = inl refl
  replies_read h g (Failed error) w s fits = repeated_sound (λ k. k.other) error (only_tkey m) (only_wired m (owners x m end says)) fits
  replies_read h g (Renews scheme a) w s fits = renewed_sound h g scheme a (w scheme a refl) s (only_tkey m) (only_key m) (key_kept m (owners x m end says)) fits
  replies_read h g Adopts w s fits = repeated_sound (λ k. k.other) 0 (only_tkey m) (only_wired m (owners x m end says)) fits
  replies_read h g Readopts w s fits = repeated_sound (λ k. []) 0 (only_tkey m) (only_wired m (owners x m end says)) fits
  replies_read h g Deletes w s fits = repeated_sound (λ k. k.other) 0 (only_tkey m) (only_wired m (owners x m end says)) fits
  replies_read h g Withdraws w s fits = repeated_sound (λ k. k.other) 0 (only_tkey m) (only_wired m (owners x m end says)) fits
