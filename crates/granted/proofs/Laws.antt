-- Laws of the key data's place as the code finds it. Assumes nothing.
use Prim.Native.Nat.{ℕ, ◌+◌, ◌-◌, ◌%◌, ◌≤◌, ◌<◌}
use mathlib.Core.Path.{◌≡◌, refl, ap, ap₂, sym, subst, ◌∙◌}
use mathlib.Core.Bool.{Bool, true, false, cond, ◌&&◌, false≢true, true≢false}
use Rattle.std.specs.Prelude.{Option, None, Some, Result, Err, Ok}
use Rattle.std.proofs.lemmas.Option.{none-some, same_Some}
use mathlib.Core.List.{List}
use native.Mathlib.Omega.{arith}
use lib.Dec.{eqb, ltb}
use lib.ListN.{length, get_or, take}
use borrow.Author.Tests.{eq-eqb, ne_eqb}
use Rattle.model.specs.declared.Span.{Span}
use Rattle.model.specs.declared.Algorithm.{Algorithm}
use Rattle.model.specs.declared.Holding.{Holding}
use Rattle.model.specs.declared.Asking.{Asking}
use Rattle.model.specs.declared.Resolver.{Resolver}
use Rattle.model.specs.Octets.{part, u16_at, u32_at, Reading, stops, reads}
use Rattle.model.specs.Names.{read_plain, algorithm_named}
use Rattle.model.specs.Messages.{Record, read_message, of_type}
use Rattle.model.specs.Tkey.{tkey_type, only}
use Rattle.model.specs.Calls.{size_ok}
use Rattle.model.specs.Resolver.{TkeyAnswer, answer_other, answer_key, answer_times, answer_named, answer_of, answers, is_mode, rcode_of}
use Rattle.model.specs.Granted.{key_data_named, key_data_of, offered_data, moved_data, answered_data, only_data, accepted_data, no_data, signed_data, awaited_data, granted_data}
use Rattle.model.proofs.Plain.{plain_part}
use Rattle.octets.proofs.Laws.{part_length as length_part}
use Rattle.matching.specs.Compare.{name_standing}
use Rattle.records.specs.Record.{Within, cut, shown as shownRecord, RecordSkipped}
use Rattle.records.proofs.Parts.{part_length, part_part}
use Rattle.messages.specs.declared.Kept.{Kept}
use Rattle.messages.specs.declared.Kept.TheVariants.{Once}
use Rattle.messages.specs.Scan.{key_by}
use Rattle.messages.specs.Answers.{AnswersRead}
use Rattle.tkey.specs.Fields.{answer_laid_out, LayoutRead}
use Rattle.tsig.specs.declared.TsigFields.{TsigFields}
use Rattle.tsig.specs.declared.Signer.{Signer}
use Rattle.tsig.specs.declared.Signer.TheVariants.{Nobody, Ill as IllSigned, Key}
use Rattle.tsig.specs.Signature.{tsig_from, shown as signerShown}
use Rattle.contents.specs.declared.Contents.{Contents}
use Rattle.contents.specs.declared.Unread.{Unread}
use Rattle.contents.specs.declared.Unread.TheVariants.{Size, Broken}
use Rattle.contents.specs.Contents.{ContentsRead, ReadAs}
use Rattle.resolver_replies.specs.Hearing.{MessageRead}
use Rattle.granted.specs.Brought.{DataRead, renews, brought, brought_by, ContentRead, PlaceRead, KeptRead, AnswerRead, AcceptedRead, SignedRead, AwaitedRead}
use Rattle.records.specs.declared.Found.{Found}
use Rattle.tkey.specs.declared.Layout.{Layout}
use Rattle.model.specs.declared.OpenRequest.{OpenRequest}

-- ── Where the key data of a TKEY lies ───────────────────────────────────────────────────────────────────────────────

-- the algorithm of a well-formed TKEY is the name that was read
module _ (r : Record) (algorithm : List ℕ) (t : TkeyAnswer) where
  by_end : (b : Bool) (x : TkeyAnswer) → x.algorithm ≡ algorithm → cond b (Some x) None ≡ Some t → t.algorithm ≡ algorithm
  by_end true x e h = ap (λ (y : TkeyAnswer). y.algorithm) (sym (same_Some x t h)) ∙ e
  by_end false x e h = absurd (none-some t h)

  by_room : (b : Bool) (x : Option TkeyAnswer) → (x ≡ Some t → t.algorithm ≡ algorithm) → cond b None x ≡ Some t → t.algorithm ≡ algorithm
  by_room true x f h = absurd (none-some t h)
  by_room false x f h = f h

  abbrev made : ℕ → TkeyAnswer
  made at =
      record {
        name = r.owner;
        algorithm = algorithm;
        inception = u32_at r.content at;
        expiration = u32_at r.content (at + 4);
        mode = u16_at r.content (at + 8);
        error = u16_at r.content (at + 10);
      }

  by_other : (at tail : ℕ) → answer_other r algorithm at tail ≡ Some t → t.algorithm ≡ algorithm
  unfolding answer_other
  by_other at tail h = by_end (eqb (tail + 2 + u16_at r.content tail) (length r.content)) (made at) refl h

  by_key : (at tail : ℕ) → answer_key r algorithm at tail ≡ Some t → t.algorithm ≡ algorithm
  unfolding answer_key
  by_key at tail h = by_room (ltb (length r.content) (tail + 2)) (answer_other r algorithm at tail) (by_other at tail) h

  answered_name : (at : ℕ) → answer_times r algorithm at ≡ Some t → t.algorithm ≡ algorithm
  unfolding answer_times
  answered_name at h =
      let tail = at + 14 + u16_at r.content (at + 12) in
      by_room (ltb (length r.content) (at + 14)) (answer_key r algorithm at tail) (by_key at tail) h

-- so where its name ends is known by how long it is
module _ (r : Record) (t : TkeyAnswer) (next : ℕ) (long : length t.algorithm ≡ next) where
  data_named : (x : Reading (List ℕ)) → read_plain r.content 0 ≡ x → answer_named r x ≡ Some t
      → key_data_named r x ≡ part r.content (next + 14) (u16_at r.content (next + 12))
  data_named (stops place) e h = absurd (none-some t h)
  data_named (reads algorithm at) e h =
      let p = plain_part r.content 0 algorithm at e in
      let n = answered_name r algorithm t at h in
      let l : length algorithm ≡ at = ap length p.2 ∙ length_part r.content 0 (at - 0) (omega arith) ∙ omega arith in
      let i : at ≡ next = sym l ∙ ap length (sym n) ∙ long in
      rw i refl

  pub data_of : answer_of r ≡ Some t → key_data_of r ≡ part r.content (next + 14) (u16_at r.content (next + 12))
  unfolding answer_of key_data_of
  data_of h = data_named (read_plain r.content 0) refl h

-- the part `content` of the message m is d, laid out as l
module _ (m : List ℕ) (content : Span) (w : Within m content) (d : List ℕ) (here : d ≡ cut m content) (l : Option Layout) (n : LayoutRead d l) where
  goes : (x : Option Layout) → l ≡ x → (r : Record) → r.content ≡ cut m content → answer_of r ≡ answer_laid_out r d x
  goes x h r is = n.answers r (is ∙ sym here) ∙ ap (answer_laid_out r d) h

  pub in_ill : l ≡ None → ContentRead m content None
  in_ill h = record { says = λ r is. ap (brought r) (goes None h r is); fits = tt }

  module _ (next count size : ℕ) (h : l ≡ Some (record { next = next; count = count; size = size })) where
    pub in_fits : (next ≤ 255) × (count ≡ u16_at d (next + 12)) × (count < 65536) × (size < 65536) × (next + 14 + count + 2 + size ≡ length d)
    in_fits = rw h at n.fits

    pub in_name : content.from + next + 14 ≤ length m
    in_name = let b = in_fits in let i = part_length m content w d here in omega arith

    there : (r : Record) → r.content ≡ cut m content → brought r (answer_of r) ≡ brought r (answer_laid_out r d (Some (record { next = next; count = count; size = size })))
    there r is = ap (brought r) (goes (Some (record { next = next; count = count; size = size })) h r is)

    module _ (mode : ℕ) (is_mode_lem : mode ≡ u16_at d (next + 8)) where
      pub in_mode : (mode ≡ 4098 → ⊥) → ContentRead m content None
      in_mode k = record { says = λ r is. there r is ∙ rw (← is_mode_lem, ne_eqb mode 4098 k) refl; fits = tt }

      module _ (k : mode ≡ 4098) (error : ℕ) (is-error : error ≡ u16_at d (next + 10)) where
        pub in_error : (error ≡ 0 → ⊥) → ContentRead m content None
        in_error j = record { says = λ r is. there r is ∙ rw (← is_mode_lem, eq-eqb mode 4098 k, ← is-error, ne_eqb error 0 j) refl; fits = tt }

        module _ (j : error ≡ 0) (a : List ℕ) (named : a ≡ part m content.from next) (g : Option Algorithm) (is-named : g ≡ algorithm_named a) where
          same_name_lem : a ≡ part d 0 next
          same_name_lem =
              let b = in_fits in
              named ∙ sym (part_part m content w d here 0 content.from next (omega arith) (omega arith))

          ends : (x : Option Algorithm) → g ≡ x → (r : Record) → r.content ≡ cut m content → brought r (answer_of r) ≡ offered_data r x
          ends x f r is =
              let q : algorithm_named (part d 0 next) ≡ x = ap algorithm_named (sym same_name_lem) ∙ sym is-named ∙ f in
              there r is ∙ rw (← is_mode_lem, eq-eqb mode 4098 k, ← is-error, eq-eqb error 0 j, q) refl

          pub in_unknown : g ≡ None → ContentRead m content None
          in_unknown f = record { says = λ r is. ends None f r is; fits = tt }

          pub in_known : (x : Algorithm) → g ≡ Some x → ContentRead m content (Some (record { from = content.from + next + 14; size = count }))
          in_known x f =
              let b = in_fits in
              let i = part_length m content w d here in
              let c : part d (next + 14) count ≡ part m (content.from + next + 14) count
              = part_part m content w d here (next + 14) (content.from + next + 14) count (omega arith) (omega arith) in
              record {
                says = λ r is.
                    ends (Some x) f r is
                    ∙ ap Some
                    (data_of r _ next (length_part d 0 next (omega arith)) (goes (Some (record { next = next; count = count; size = size })) h r is)
                    ∙ ap (λ (y : List ℕ). part y (next + 14) (u16_at y (next + 12))) (is ∙ sym here)
                    ∙ ap (part d (next + 14)) (sym b.1)
                    ∙ c);
                fits = omega arith;
              }

-- ── The record at a place, and what a pass kept ─────────────────────────────────────────────────────────────────────

module _ (m : List ℕ) (place : ℕ) (f : Result Found ℕ) (q : RecordSkipped m place f) where
  pub at_bad : (p : ℕ) → f ≡ Err p → PlaceRead m place None
  at_bad p e = record { says = λ section. simp (q.read.says section, e); fits = tt }

  module _ (len kind class ttl : ℕ) (content : Span) (e : f ≡ Ok (record { len = len; kind = kind; class = class; ttl = ttl; content = content })) where
    bounds : (len ≤ 255) × (kind < 65536) × (class < 65536) × (ttl < 4294967296) × (content.size < 65536) × Within m content
    bounds = rw e at q.read.bounds

    pub at_within : Within m content
    at_within = bounds.5

    pub at_record : (k : Option Span) → ContentRead m content k → PlaceRead m place k
    at_record k c = record {
      says = λ section.
          ap (λ x. brought_by (key_by x)) (q.read.says section ∙ ap (λ (x : Result Found ℕ). shownRecord m section x q.out) e)
          ∙ c.says (record { section = section; owner = take len q.out; type = kind; class = class; ttl = ttl; content = cut m content }) refl;
      fits = c.fits;
    }

pub by_once : (m : List ℕ) (k : Kept) (section place : ℕ) → k ≡ Once section place → (f : Option Span) → PlaceRead m place f → KeptRead m k f
by_once m k section place e f r = record { says = simp e (r.says section); fits = r.fits }

pub by_answer : (m : List ℕ) (end : ℕ) (k : Kept) → AnswersRead m end k → (f : Option Span) → KeptRead m k f → AnswerRead m end f
by_answer m end k a f r = record {
  says = λ q response w. ap brought_by (a.says q w.says w.after w.within w.octets) ∙ r.says;
  fits = r.fits;
}

-- ── The checks ──────────────────────────────────────────────────────────────────────────────────────────────────────

-- no renewal: no data, whatever the TKEY is; a renewal: what it brings
module _ (s : Resolver) (r : Record) (t : TkeyAnswer) where
  none_held : (h : Holding) (asking : Asking) → renews h asking ≡ false → s.holding ≡ h → moved_data asking s r t ≡ None
  none_held h Asking.Ordinary e f = refl
  none_held Holding.Nothing Asking.Renewal e f = rw f refl
  none_held Holding.Adopted Asking.Renewal e f = absurd (true≢false e)
  none_held Holding.AdoptedAndOffered Asking.Renewal e f = absurd (true≢false e)
  none_held h Asking.Adoption e f = refl
  none_held h Asking.Deletion e f = refl

  some_held : (h : Holding) (asking : Asking) → renews h asking ≡ true → s.holding ≡ h
      → (asking ≡ Asking.Renewal) × (moved_data asking s r t ≡ offered_data r (algorithm_named t.algorithm))
  some_held Holding.Nothing asking e f = absurd (false≢true e)
  some_held Holding.Adopted Asking.Ordinary e f = absurd (false≢true e)
  some_held Holding.Adopted Asking.Renewal e f = (refl, rw f refl)
  some_held Holding.Adopted Asking.Adoption e f = absurd (false≢true e)
  some_held Holding.Adopted Asking.Deletion e f = absurd (false≢true e)
  some_held Holding.AdoptedAndOffered Asking.Ordinary e f = absurd (false≢true e)
  some_held Holding.AdoptedAndOffered Asking.Renewal e f = (refl, rw f refl)
  some_held Holding.AdoptedAndOffered Asking.Adoption e f = absurd (false≢true e)
  some_held Holding.AdoptedAndOffered Asking.Deletion e f = absurd (false≢true e)

either_none : (b : Bool) → cond {A = Option (List ℕ)} b None None ≡ None
either_none true = refl
either_none false = refl

module _ (s : Resolver) (asking : Asking) where
  module _ (e : renews s.holding asking ≡ false) where
    none_by : (r : Record) (x : Option TkeyAnswer) → answered_data asking s r x ≡ None
    none_by r None = refl
    none_by r (Some t) =
        let b = is_mode asking t.mode && eqb t.error 0 in
        ap (λ (y : Option (List ℕ)). cond b y None) (none_held s r t s.holding asking e refl) ∙ either_none b

    none_data : (x : Option Record) → only_data asking s x ≡ None
    none_data None = refl
    none_data (Some r) = none_by r (answer_of r)

  module _ (e : renews s.holding asking ≡ true) where
    some_by : (r : Record) (x : Option TkeyAnswer) → answered_data asking s r x ≡ brought r x
    some_by r None = refl
    some_by r (Some t) = let h = some_held s r t s.holding asking e refl in
        ap₂ (λ (b : Bool) (y : Option (List ℕ)). cond (b && eqb t.error 0) y None) (ap (λ (a : Asking). is_mode a t.mode) h.0) h.1

    some_data : (x : Option Record) → only_data asking s x ≡ brought_by x
    some_data None = refl
    some_data (Some r) = some_by r (answer_of r)

module _ (b : Bool) (m : List ℕ) (end : ℕ) (response : Bool) (error : ℕ) where
  pub no_renewal : b ≡ false → AcceptedRead b m end response error None
  unfolding accepted_data
  no_renewal h = record {
    says = λ q w t e s asking i.
        let b = q.response && (eqb (rcode_of m) 0 && eqb t.error 0) in
        ap (λ (y : Option (List ℕ)). cond b y None) (none_data s asking (i ∙ h) (only (of_type tkey_type (answers q.records)))) ∙ either_none b;
    fits = tt;
  }

  pub no_reply : response ≡ false → AcceptedRead b m end response error None
  unfolding accepted_data
  no_reply h = record { says = λ q w t e s asking i. rw (w.responds ∙ h) refl; fits = tt }

  module _ (h : response ≡ true) (o : ℕ) (here : o ≡ get_or m 3 0) where
    pub bad_rcode : (o % 16 ≡ 0 → ⊥) → AcceptedRead b m end response error None
    unfolding accepted_data rcode_of
    bad_rcode k = record { says = λ q w t e s asking i. rw (w.responds ∙ h, ← here, ne_eqb (o % 16) 0 k) refl; fits = tt }

    module _ (k : o % 16 ≡ 0) where
      pub bad_tsig : (error ≡ 0 → ⊥) → AcceptedRead b m end response error None
      unfolding accepted_data rcode_of
      bad_tsig j = record { says = λ q w t e s asking i. rw (w.responds ∙ h, ← here, eq-eqb (o % 16) 0 k, e, ne_eqb error 0 j) refl; fits = tt }

      pub no_error : b ≡ true → error ≡ 0 → (f : Option Span) → AnswerRead m end f → AcceptedRead b m end response error f
      unfolding accepted_data rcode_of
      no_error g j f a = record {
        says = λ q w t e s asking i.
            rw (w.responds ∙ h, ← here, eq-eqb (o % 16) 0 k, e, eq-eqb error 0 j)
            (some_data s asking (i ∙ g) (only (of_type tkey_type (answers q.records))) ∙ a.says q response w);
        fits = a.fits;
      }

module _ (b good : Bool) (m : List ℕ) (end : ℕ) (response : Bool) (g : Signer) where
  pub by_nobody : g ≡ Nobody → SignedRead b good m end response g None
  unfolding no_data
  by_nobody h = record { says = λ q w s asking i. rw h refl; fits = tt }

  pub by_ill : g ≡ IllSigned → SignedRead b good m end response g None
  unfolding no_data
  by_ill h = record { says = λ q w s asking i. rw h refl; fits = tt }

  module _ (place : ℕ) (t : TsigFields) (h : g ≡ Key place t) where
    pub by_verdict : good ≡ false → SignedRead b good m end response g None
    unfolding no_data
    by_verdict v = record { says = λ q w s asking i. rw (h, v) refl; fits = tt }

    pub by_signed : good ≡ true → (f : Option Span) → AcceptedRead b m end response t.error f → SignedRead b good m end response g f
    by_signed v f a = record {
      says = λ q w s asking i. rw (h, v) (a.says q w (tsig_from m (name_standing m place) t) refl s asking i);
      fits = a.fits;
    }

module _ (holding : Holding) (o : Option OpenRequest) (good : Bool) (m : List ℕ) (end : ℕ) (response : Bool) (g : Signer) where
  pub lost : o ≡ None → AwaitedRead holding o good m end response g None
  unfolding no_data
  lost h = record { says = λ q w e s i. rw h refl; fits = tt }

  module _ (id : ℕ) (asking : Asking) (h : o ≡ Some (record { id = id; asking = asking })) (x : ℕ) (is : x ≡ u16_at m 0) where
    pub wrong_id : (x ≡ id → ⊥) → AwaitedRead holding o good m end response g None
    unfolding no_data
    wrong_id k = record { says = λ q w e s i. rw (h, w.id ∙ sym is, ne_eqb x id k) refl; fits = tt }

    pub right_id : x ≡ id → (b : Bool) → b ≡ renews holding asking → (f : Option Span) → SignedRead b good m end response g f
        → AwaitedRead holding o good m end response g f
    right_id k b j f a = record {
      says = λ q w e s i.
          let z : signed_data s asking m q good (signerShown m g) ≡ awaited_data s o m good q = rw (h, w.id ∙ sym is, eq-eqb x id k, e) refl in
          sym z ∙ a.says q w s asking (ap (λ (y : Holding). renews y asking) i ∙ sym j);
      fits = a.fits;
    }

module _ (s : Resolver) (good : Bool) (m : List ℕ) (o : Result Contents Unread) (q : ReadAs m o) where
  pub unread : (u : Unread) → o ≡ Err u → DataRead (granted_data s good m) m None
  unfolding granted_data no_data
  unread Size e = record { says = rw (subst (ReadAs m) e q) refl; fits = tt }
  unread (Broken place) e = let x : (size_ok m ≡ true) × (read_message m ≡ stops place) = subst (ReadAs m) e q in record { says = rw (x.0, x.1) refl; fits = tt }

  pub well_formed_lem : (c : Contents) → o ≡ Ok c → (f : Option Span) → AwaitedRead s.holding s.awaited good m c.end c.response c.signer f
      → DataRead (granted_data s good m) m f
  unfolding granted_data
  well_formed_lem c e f a =
      let x : ContentsRead m c = subst (ReadAs m) e q in
      let w : MessageRead m x.message c.end c.response =
      record { says = x.says; after = x.after; within = x.within; octets = x.octets; id = x.id; responds = x.response } in
      record {
        says = rw (x.sized, x.says) (a.says x.message w x.signing s refl);
        fits = a.fits;
      }

pub whole_from : (m : List ℕ) {o : Result Contents Unread} {c : Contents} → ReadAs m o → o ≡ Ok c → 12 ≤ length m
whole_from m {c = c} q e = let x : ContentsRead m c = subst (ReadAs m) e q in omega arith
