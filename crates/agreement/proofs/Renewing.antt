-- A renewal gives both the same new key, or neither moves. Assumes nothing.
use mathlib.Core.Path.{◌≡◌, refl, sym, ap, ap₂, subst, ◌∙◌}
use mathlib.Core.Bool.{true, false, not}
use Rattle.std.specs.Prelude.{Option, Some}
use Rattle.std.proofs.lemmas.Option.{none-some, same_Some}
use mathlib.Core.List.{List, [], ◌∷◌, ◌++◌, append-nil}
use Prim.Native.Nat.{ℕ, ◌%◌, ◌^◌, ◌<◌}
use native.Mathlib.Omega.{arith}
use borrow.Author.Tests.{ltb-true, lt-ltb, ne_eqb}
use lib.Dec.{ltb, eqb}
use lib.ListN.{length, replicate}
use Rattle.model.specs.declared.Algorithm.{Algorithm}
use Rattle.model.specs.declared.Algorithm.TheVariants.{Sha256, Sha384, Sha512}
use Rattle.model.specs.declared.Key.{Key}
use Rattle.model.specs.declared.Keys.{Keys}
use Rattle.model.specs.declared.Keys.TheVariants.{Empty, Adopted, Renewing}
use Rattle.model.specs.declared.Pair.{Pair}
use Rattle.model.specs.declared.Heard.{Heard}
use Rattle.model.specs.declared.Decision.{Decision}
use Rattle.model.specs.declared.Scheme.TheVariants.{ServerAssignment}
use Rattle.model.specs.declared.Decision.TheVariants.{Failed, Renews}
use Rattle.model.specs.declared.Asking.TheVariants as Asking
use Rattle.model.specs.declared.Holding.{Holding}
use Rattle.model.specs.declared.ResolverKey.{ResolverKey}
use Rattle.model.specs.declared.Resolver.{Resolver}
use Rattle.model.specs.declared.SignWith.TheVariants as SignWith
use Rattle.model.specs.Names.{lower_of, same_name, wire_name, algorithm_name, algorithm_named, key_name}
use Rattle.model.specs.Tsig.{any_class}
use Rattle.model.specs.Tkey.{Old, tkey_type, key_type, mode_of, renews_or_adopts, old_of}
use Rattle.model.specs.Pairs.{with_keys, made, revoked_key, renewed_keys, renewed}
use Rattle.model.specs.Tables.{Table, suffix_at, pair_at, with_pair, with_clock, table_rules}
use Rattle.model.specs.Judging.{form_err, serv_fail, bad_key, bad_alg, bad_time, adopted_of, waiting_of, is_key, signer_of, held_suffix, held_pair, good_times, good_interval, can_renew, renewal_of, changed, offer_serves}
use Rattle.model.specs.Replies.{heading, record_octets, tkey_record, granted, echoed, renewed_reply, reply_of, error_of, key_data, lends, answers_of, behind, granted_reply, second_ok}
use Rattle.model.specs.Calls.{holder_at}
use Rattle.model.specs.Resolver.{name_of, old_key, usable, adopted_key, offered_key, closed, opened, TkeyAnswer, offered_by, renewed_in, root_or, request_octets, renewal_octets, written_renewal, read_reply}
use Rattle.model.specs.Exchange.{Ask, renewal, written, reply_or, Ordinary, Turn, writing_in, request_in, Sides, exchanged, Clean, Agree, InTime, Room, given_in}
use Rattle.model.proofs.Tests.{left, by_check, by_known}
use Rattle.octets.proofs.Back.{put_front}
use Rattle.printed.proofs.Names.{algorithm_wire, key_wire}
use Rattle.printed.proofs.Records.{KeyEntry, key_read}
use Rattle.printed.proofs.Contents.{old_back}
use Rattle.agreement.proofs.Asked.{Request, keyed, key_of, stamped_by, tkey_in, data_of}
use Rattle.agreement.proofs.Answered.{heading_octets, echo, Answer, answer_entry, reply_by}
use Rattle.agreement.proofs.Decided.{decided}
use Rattle.agreement.proofs.Exchanged.{scene_of, Posed, decision, heard_is, exchanged_is, by_decision, decision_is, serves, sized}
use Rattle.model.proofs.NameLaws.{same_refl}
use Rattle.agreement.proofs.Row.{Holds, adopted_held, next_serial_lem, adopted_serial_lem, suffix_wire, suffix_short}
use Rattle.agreement.proofs.Served.{is_key_lem}
use Rattle.agreement.proofs.Steps.{pair_then, enrolled_then, key_then, Scene, stamp_for, read_in, asksIn, replyFor, sidesFor, Fine, facts, hears, accepts, refused, failed}
use Rattle.agreement.proofs.Writes.{Renewal, wrote_renewal, adopted_is}

-- A key was granted to both: it waits, the adopted key is as it was but for its partial time, and the first adoption is signed with that.
pub record Granted (i : ℕ) (b c : Sides) (g : Algorithm) (a : Key) : Type 0 where
  pub old : Key
  pub adopted : adopted_of (pair_at c.table i).keys ≡ Some old
  pub begun : old.inception ≡ a.inception
  pub ends : old.expiry ≡ a.expiry
  pub same : old.algorithm ≡ a.algorithm
  pub waiting : Key
  pub waits : waiting_of (pair_at c.table i).keys ≡ Some waiting
  pub serial : waiting.serial ≡ (pair_at b.table i).next_serial
  pub algorithm : waiting.algorithm ≡ g
  pub turn : c.resolver.offered_signs ≡ false
  pub agrees : Agree i c

-- an algorithm's name names it
named_back : (g : Algorithm) → algorithm_named (algorithm_name g) ≡ Some g
unfolding algorithm_named algorithm_name same_name lower_of
named_back Sha256 = refl
named_back Sha384 = refl
named_back Sha512 = refl

module _ (b : Sides) (i : ℕ) (e : Agree i b) (x : Turn) (asked : List ℕ) (g : Algorithm) (inception expiration : ℕ) (lent : List ℕ)
    (ask : x.ask ≡ renewal asked g inception expiration lent) (writes : (writing_in b.resolver x).result.number ≡ 0) (sound : table_rules b.table ≡ true) where
  abbrev t : Table
  t = b.table

  abbrev s : Resolver
  s = b.resolver

  wrote_it : Renewal s x.id asked g inception expiration lent (written_renewal s x.id asked g inception expiration lent x.room)
  unfolding writing_in
  wrote_it = wrote_renewal s x.id asked g inception expiration lent x.room (rw ask at writes)

  abbrev k : ResolverKey
  k = wrote_it.adopted

  named : wire_name (name_of k) ≡ true
  named = let a = adopted_is s k wrote_it.holds in rw a.is a.named

  row : Holds e k
  row = adopted_held e k wrote_it.holds

  abbrev a : Key
  a = row.key

  abbrev p : Pair
  p = pair_at t i

  abbrev other : List ℕ
  other = old_key (name_of k) k.algorithm

  abbrev old : Old
  old = record { name = name_of k; algorithm = algorithm_name k.algorithm }

  olds : old_of 4098 other ≡ Some old
  unfolding old_of mode_of renews_or_adopts old_key
  olds = old_back (name_of k) (algorithm_name k.algorithm) named (algorithm_wire k.algorithm)

  key : KeyEntry lent
  key = key_read lent wrote_it.keyed

  abbrev q : Request
  q =
      record {
        id = x.id;
        name = root_or asked;
        named = wrote_it.named;
        algorithm = g;
        inception = inception;
        expiration = expiration;
        mode = 4098;
        other = other;
        old = old;
        olds = olds;
        extra = keyed lent key;
      }

  abbrev scene : Scene
  scene = scene_of b i x q Asking.Renewal s.offered_signs k named

  -- ── A key is granted ──────────────────────────────────────────────────────────────────────────────────────────────

  module _ (spare : p.next_serial < 2 ^ 32) where
    abbrev new : Key
    new = made p x.time g

    abbrev new_name : List ℕ
    new_name = key_name p.next_serial (suffix_at t i)

    new_wire : wire_name new_name ≡ true
    new_wire =
        key_wire p.next_serial (suffix_at t i) (next_serial_lem t sound i e.enrolled a row.adopted) spare (suffix_short t sound i e.enrolled) (suffix_wire t sound i e.enrolled)

    abbrev answer : TkeyAnswer
    answer =
        record {
          name = new_name;
          algorithm = algorithm_name g;
          inception = new.inception % 4294967296;
          expiration = new.expiry % 4294967296;
          mode = 4098;
          error = 0;
        }

    abbrev reply : Answer
    reply =
        record {
          tkey = answer;
          named = new_wire;
          known = algorithm_wire g;
          key = x.offer;
          other = other;
          extra = echo key.owner key.class key.ttl key.content key.named;
        }

    replies : reply_of (holder_at t i) scene.given (read_in scene) (Renews ServerAssignment g) ≡ reply_by x.id (root_or asked) reply
    unfolding reply_of renewed_reply granted_reply granted key_data lends answers_of behind echoed tkey_record held_suffix held_pair holder_at made
    replies =
        let entry = (answer_entry reply).octets in
        let echo' = record_octets key.owner key_type key.class key.ttl key.content in
        rw ((facts scene).tkey, (facts scene).keys)
        (ap₂ (λ (l r : List ℕ). heading (read_in scene) 0 1 1 ++ (l ++ r)) (sym (append-nil entry)) (sym (append-nil echo'))
        ∙ heading_octets x.id (root_or asked) tkey_type any_class _ 0 (answer_entry reply ∷ []) _)

    -- the resolver has it as the offered key
    abbrev offeredNow : Resolver
    offeredNow = offered_by (closed (asksIn scene)) answer (Some g)

    offers : renewed_in s.holding (closed (asksIn scene)) answer ≡ offeredNow
    offers = go s.holding refl
      where
        go : (h : Holding) → s.holding ≡ h → renewed_in h (closed (asksIn scene)) answer ≡ offeredNow
        go Holding.Nothing is = absurd ((adopted_is s k wrote_it.holds).held is)
        go Holding.Adopted is = ap (offered_by (closed (asksIn scene)) answer) (named_back g)
        go Holding.AdoptedAndOffered is = ap (offered_by (closed (asksIn scene)) answer) (named_back g)

    name_is_lem : name_of offeredNow.offered ≡ new_name
    unfolding name_of
    name_is_lem = put_front new_name (replicate 255 0)

    offered_is : offered_key offeredNow ≡ Some offeredNow.offered
    unfolding offered_key usable
    offered_is = rw (name_is_lem, new_wire) refl

    -- the table has it as the waiting key
    adopted_now : adopted_of (renewed_keys p.keys x.time new) ≡ Some (revoked_key a x.time)
    unfolding renewed_keys
    adopted_now = go p.keys row.adopted
      where
        go : (ks : Keys) → adopted_of ks ≡ Some a → adopted_of (renewed_keys ks x.time new) ≡ Some (revoked_key a x.time)
        go Empty f = absurd (none-some a f)
        go (Adopted y) f = ap {B = Option Key} (λ (y : Key). Some (revoked_key y x.time)) (same_Some y a f)
        go (Renewing y z) f = ap {B = Option Key} (λ (y : Key). Some (revoked_key y x.time)) (same_Some y a f)

    waiting_now : waiting_of (renewed_keys p.keys x.time new) ≡ Some new
    unfolding renewed_keys
    waiting_now = go p.keys row.adopted
      where
        go : (ks : Keys) → adopted_of ks ≡ Some a → waiting_of (renewed_keys ks x.time new) ≡ Some new
        go Empty f = absurd (none-some a f)
        go (Adopted y) f = refl
        go (Renewing y z) f = refl

    renews : Fine scene (Renews ServerAssignment g)
    unfolding changed error_of renewed with_keys revoked_key made opened closed adopted_key
    renews =
        record {
          ends = λ z.
              let there = pair_then t x.time i (renewed p x.time g) e.enrolled in
              rw (hears scene (Renews ServerAssignment g) reply refl replies z ∙ offers)
              (record {
                enrolled = enrolled_then t x.time i _ e.enrolled;
                adopted = rw (there, adopted_now, (adopted_is s k wrote_it.holds).served) (key_then t x.time i (renewed p x.time g) (record { name = row.same.name; algorithm = row.same.algorithm }));
                offered = rw (there, waiting_now, offered_is) (key_then t x.time i (renewed p x.time g) (record { name = rw name_is_lem (same_refl new_name); algorithm = refl }));
              });
        }

  -- ── The whole ─────────────────────────────────────────────────────────────────────────────────────────────────────

  by_mode : (a' : Key) → signer_of (holder_at t i) (stamped_by (name_of k) (stamp_for scene x.stamp 0)) ≡ Some a'
      → Fine scene (renewal_of (held_suffix (holder_at t i)) (held_pair (holder_at t i)) a' (given_in x) (key_of (keyed lent key)) (tkey_in q) ServerAssignment)
  unfolding renewal_of offer_serves can_renew bad_key form_err bad_alg bad_time serv_fail held_suffix held_pair holder_at
  by_mode a' _ =
      by_check (Fine scene) Failed _ (failed scene e _ (λ z. omega arith)) (is_key (name_of k) (algorithm_name k.algorithm) (suffix_at t i) a') λ _.
      by_known (Fine scene) Failed _ (failed scene e _ (λ z. omega arith)) (algorithm_named (algorithm_name g)) λ g' is.
      by_check (Fine scene) Failed _ (failed scene e _ (λ z. omega arith)) (good_interval (tkey_in q)) λ _.
      by_check (Fine scene) Failed _ (failed scene e _ (λ z. omega arith)) (can_renew p ServerAssignment x.offer) λ can.
      subst (λ (g : Algorithm). Fine scene (Renews ServerAssignment g)) (same_known (sym (named_back g) ∙ is)) (renews (ltb-true _ _ (left (ltb p.next_serial 0x1_0000_0000) (not (eqb (length x.offer) 0)) can)))
    where
      same_known : {a b : Algorithm} → Some a ≡ Some b → a ≡ b
      same_known e = cc

  posed : Posed b i x
  unfolding writing_in renewal_octets
  posed =
      record {
        request = q;
        asking = Asking.Renewal;
        turn = s.offered_signs;
        key = k;
        named = named;
        held = a;
        same = row.same;
        serial = adopted_serial_lem t sound i e.enrolled a row.adopted;
        octets = renewal_octets x.id (root_or asked) g inception expiration (name_of k) k.algorithm lent;
        is = ap (request_octets x.id (root_or asked) (data_of q) 1) (sym (append-nil lent));
        signer = SignWith.AdoptedKey;
        by = sym (adopted_is s k wrote_it.holds).is;
        writes = ap (written s x.id x.room) ask ∙ wrote_it.says;
        straight = λ r. ap (λ (a : Ask). reply_or a r) ask;
      }

  pub renewal_agrees : Clean b x → Agree i (exchanged b x)
  unfolding mode_of posed
  renewal_agrees clean =
      by_decision b i x posed e.enrolled clean.serves
      (decided (holder_at t i) _ (read_in scene) _ (tkey_in q) (key_of (keyed lent key)) (facts scene) (Fine scene) (refused scene e) by_mode) clean.hears

  -- ── In the key's time and fudge, a key is granted ─────────────────────────────────────────────────────────────────

  module _ (spare : p.next_serial < 2 ^ 32) (interval : good_times inception expiration ≡ true) (some-offer : 0 < length x.offer) (ready : InTime a x) (room : Room b x) where
    grants : decision b i x posed ≡ Renews ServerAssignment g
    unfolding posed mode_of renews_or_adopts renewal_of good_interval offer_serves can_renew
    grants =
        decision_is b i x posed a row.adopted row.same ready refl
        ∙ rw (is_key_lem t i k a row.same, named_back g, interval, lt-ltb p.next_serial 0x1_0000_0000 spare, ne_eqb (length x.offer) 0 (λ z. omega arith)) refl

    hears_it : (read_reply (asksIn scene) x.reply_good (replyFor scene (Renews ServerAssignment g))).number ≡ 0
    unfolding posed error_of second_ok lends
    hears_it = accepts scene (Renews ServerAssignment g) (reply spare) refl (replies spare) (sized b i x posed e.enrolled room (Renews ServerAssignment g) grants refl) room.verdict

    clean : Clean b x
    unfolding posed second_ok lends
    clean =
        let done = serves b i x posed e.enrolled room (Renews ServerAssignment g) grants refl in
        record {
          writes = writes;
          serves = done;
          hears = ap (λ (h : Heard). h.number) (heard_is b i x posed e.enrolled done) ∙ subst (λ (d : Decision). (read_reply (asksIn scene) x.reply_good (replyFor scene d)).number ≡ 0) (sym grants) hears_it;
          ordinary = subst (λ (a : Ask). Ordinary a (request_in s x)) (sym ask) tt;
        }

    sides : exchanged b x ≡ record { table = with_pair (with_clock t x.time) i (renewed p x.time g); resolver = offeredNow spare }
    unfolding posed changed error_of second_ok lends closed opened
    sides =
        exchanged_is b i x posed e.enrolled (serves b i x posed e.enrolled room (Renews ServerAssignment g) grants refl)
        ∙ ap (sidesFor scene) grants
        ∙ ap (λ (r : Resolver). record { table = with_pair (with_clock t x.time) i (renewed p x.time g); resolver = r }) (hears scene (Renews ServerAssignment g) (reply spare) refl (replies spare) hears_it ∙ offers spare)

    granted_both : Granted i b (exchanged b x) g a
    unfolding renewed with_keys renewed_keys revoked_key made
    granted_both =
        let there = pair_then t x.time i (renewed p x.time g) e.enrolled in
        let agrees : Agree i (exchanged b x) = renewal_agrees clean in
        rw sides
        (record {
          old = revoked_key a x.time;
          adopted = rw there (adopted_now spare);
          begun = refl;
          ends = refl;
          same = refl;
          waiting = new spare;
          waits = rw there (waiting_now spare);
          serial = refl;
          algorithm = refl;
          turn = refl;
          agrees = rw sides at agrees;
        })

  pub grants_both : (a : Key) → adopted_of (pair_at b.table i).keys ≡ Some a → (pair_at b.table i).next_serial < 2 ^ 32 → good_times inception expiration ≡ true → 0 < length x.offer → InTime a x → Room b x
      → Granted i b (exchanged b x) g a
  grants_both a' is spare interval some-offer ready room =
      let same : a ≡ a' = same_Some a a' (sym row.adopted ∙ is) in
      subst (Granted i b (exchanged b x) g) same (granted_both spare interval some-offer (subst (λ (k : Key). InTime k x) (sym same) ready) room)
