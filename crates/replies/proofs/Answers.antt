-- From what the lower writers leave to the answer of the whole reply, and from that to model's reply. Assumes nothing.
use Prim.Native.Nat.{ℕ, ◌+◌, ◌-◌, ◌^◌, ◌≤◌, ◌<◌}
use mathlib.Core.Path.{◌≡◌, refl, sym, ap, subst, ◌∙◌}
use mathlib.Core.Bool.{Bool, true, false, false≢true}
use mathlib.Core.List.{List, []}
use native.Mathlib.Omega.{arith}
use borrow.Author.Tests.{le-leb}
use lib.ListN.{length, take, length-take}
use Rattle.model.specs.declared.Algorithm.{Algorithm}
use Rattle.model.specs.declared.Span.{Span}
use Rattle.model.specs.declared.Pair.{Pair}
use Rattle.model.specs.declared.Decision.{Decision}
use Rattle.model.specs.declared.Decision.TheVariants.{Unsigned, Refused, Passed, Failed, Renews, Adopts, Readopts, Deletes, Withdraws}
use Rattle.model.specs.Octets.{put}
use Rattle.model.specs.Names.{read_name, key_name}
use Rattle.model.specs.Messages.{Message}
use Rattle.model.specs.Judging.{Holder, held_suffix, held_pair, Given}
use Rattle.model.specs.Replies.{answers_of, rcode_reply, tkey_reply, readopted_reply, reply_of}
use Rattle.model.specs.Calls.{room_for}
use Rattle.std.specs.Prelude.{Result, Err, Ok, None, Some, Option}
use Rattle.compression.specs.Name.{shown as shownName, NameRead}
use Rattle.matching.specs.Compare.{octets_of, name_standing}
use Rattle.octets.specs.Wrote.{Wrote}
use Rattle.octets.proofs.Laws.{wrote_front, from_start}
use Rattle.tkey.specs.declared.TkeyFields.{TkeyFields}
use Rattle.tkey.specs.declared.KeyFields.{KeyFields}
use Rattle.tkey.specs.Fields.{Fits, TkeyFits}
use Rattle.tkey.specs.Key.{KeyFits}
use Rattle.contents.specs.declared.Contents.{Contents}
use Rattle.contents.specs.Contents.{ContentsRead}
use Rattle.contents.proofs.Laws.{sized_most}
use Rattle.model.specs.declared.Scheme.{Scheme}
use Rattle.records.specs.Record.{cut}
use Rattle.replies.specs.declared.Fields.{Fields}
use Rattle.replies.specs.Parts.{framed, repeated_octets, granted_octets, Replied, FieldsIn, EchoIn, Read}
use Rattle.replies.specs.Written.{is_quiet, answer_of, other_of, grant_of, outcome_of, renewal_for, renewal_octets, NameOut, DecisionFits, Replies}
use Rattle.replies.proofs.Laws.{replied_as}
use Rattle.replies.proofs.Joins.{only_tkey_lem, only_key_lem, refused_reply, tkey_reply_lem, readopted_reply_lem, renewed_reply_lem}
use Rattle.compression.specs.declared.Name.{Name}

-- ── No reply ────────────────────────────────────────────────────────────────────────────────────────────────────────

pub answers_none : (b : List ℕ) → Replied [] b b (Some 0)
unfolding room_for put
answers_none b = record { says = (rw (le-leb 0 (length b) (omega arith)) refl, refl, refl) }

-- ── The fields ──────────────────────────────────────────────────────────────────────────────────────────────────────

module _ (m : List ℕ) (t : TkeyFields) (f : Fits m t) where
  pub answer_in_lem : (error : ℕ) (again : Bool) → error < 65536 → FieldsIn m (answer_of t error (other_of t again))
  answer_in_lem error true h =
      record { algorithm = f.algorithm; key = f.key; other = omega arith; inception = f.inception; expiration = f.expiration; mode = f.mode; error = h }
  answer_in_lem error false h =
      record { algorithm = f.algorithm; key = f.key; other = f.other; inception = f.inception; expiration = f.expiration; mode = f.mode; error = h }

  pub grant_in : (time expiry : ℕ) → FieldsIn m (grant_of t time expiry)
  grant_in time expiry =
      record { algorithm = f.algorithm; key = f.key; other = f.other; inception = omega arith; expiration = omega arith; mode = f.mode; error = omega arith }

-- ── Names written out ───────────────────────────────────────────────────────────────────────────────────────────────

module _ (m out : List ℕ) (at : ℕ) (g : Result Name ℕ) (q : NameRead m (read_name m at) out g) where
  stands : (r : Result Name ℕ) → g ≡ r → octets_of (shownName r out) ≡ name_standing m at
  stands r e = sym (ap octets_of (q.says ∙ ap (λ (x : Result Name ℕ). shownName x out) e))

  pub no_name : (p : ℕ) → g ≡ Err p → NameOut m at out 0
  no_name p e = record { says = stands (Err p) e; short = omega arith; room = q.room }

  pub one_name : (len next : ℕ) → g ≡ Ok (record { len = len; next = next }) → NameOut m at out len
  one_name len next e = record { says = stands (Ok (record { len = len; next = next })) e; short = rw e at q.short; room = q.room }

-- the part of an array that holds a name written at its front, lent as name[0..k]
pub name_lent : {xs b b' : List ℕ} {k : ℕ} → Wrote xs 0 b b' k → take (k - 0) b' ≡ xs
name_lent {xs} {b} {b'} {k} w = from_start k b' ∙ wrote_front w

pub out_lent : {m out : List ℕ} {place n : ℕ} → NameOut m place out n → take (n - 0) out ≡ name_standing m place
out_lent {out = out} {n = n} o = from_start n out ∙ o.says

pub lent_short : (k : ℕ) (name : List ℕ) → k ≤ 255 → length (take (k - 0) name) < 65536
lent_short k name h = rw length-take (omega arith)

-- ── The outcomes, as read ───────────────────────────────────────────────────────────────────────────────────────────

module _ {m : List ℕ} {c : Contents} (x : ContentsRead m c) where
  pub read_so : Read m c.end
  read_so = record { from = x.after; to = x.within; size = sized_most m x.sized }

  module _ (place : ℕ) (t : TkeyFields) (is : c.tkey ≡ Some (record { place = place; fields = t })) where
    found : Fits m t
    found = (subst (TkeyFits m) is x.tkey_fits).1

    pub outcome_key : t.key.from + t.key.size ≤ length m
    outcome_key = found.key

    module _ (error : ℕ) (again : Bool) (other : Span) (eo : other ≡ other_of t again) (r : Fields) (er : r ≡ answer_of t error other) where
      pub outcome_in : error < 65536 → FieldsIn m r
      outcome_in h = rw (er, eo) (answer_in_lem m t found error again h)

      pub outcome_answers :
          error < 65536 → (owner key : List ℕ) {b b' : List ℕ} {w : Option ℕ}
          → owner ≡ name_standing m place
          → key ≡ cut m t.key
          → Replied (repeated_octets m c.end 1 0 r owner key) b b' w
          → Replied (outcome_of m c.end c.tkey error again) b b' w
      outcome_answers h owner key named ek s =
          let o : repeated_octets m c.end 1 0 r owner key ≡ outcome_of m c.end (Some (record { place = place; fields = t })) error again = rw (er, eo, named, ek) refl in
          rw is (replied_as o s)

    module _ (at : ℕ) (e : KeyFields) (ik : c.key ≡ Some (record { place = at; fields = e })) where
      pub echo_in : EchoIn m e
      echo_in = let f : KeyFits m (Some (record { place = at; fields = e })) = subst (KeyFits m) ik x.key_fits in record { content = f.content; kind = f.kind; class = f.class; ttl = f.ttl }

      module _ (p : Pair) (time : ℕ) (r : Fields) (er : r ≡ grant_of t time (time + p.lifetime)) where
        pub renewal_in : FieldsIn m r
        renewal_in = rw er (grant_in m t found time (time + p.lifetime))

        pub renewal_answers :
            (scheme : Scheme) (k : ℕ) (owner offer second subject suffix : List ℕ) {b b' : List ℕ} {w : Option ℕ}
            → k ≡ answers_of scheme
            → owner ≡ key_name p.next_serial suffix
            → subject ≡ name_standing m at
            → Replied (granted_octets scheme m (record { end = c.end; answers = k; fields = r; echo = e }) owner offer second subject) b b' w
            → Replied (renewal_octets scheme m c offer second p suffix time) b b' w
        unfolding granted_octets
        renewal_answers scheme k owner offer second subject suffix ek named stands s =
            let o : granted_octets scheme m (record { end = c.end; answers = k; fields = r; echo = e }) owner offer second subject ≡ renewal_for scheme m c.end (Some (record { place = place; fields = t })) (Some (record { place = at; fields = e })) offer second p suffix time = rw (er, ek, named, stands) refl in
            rw (is, ik) (replied_as o s)

-- no TKEY, or no KEY: no reply
module _ (m : List ℕ) (c : Contents) (b : List ℕ) where
  pub no_outcome : (error : ℕ) (again : Bool) → c.tkey ≡ None → Replied (outcome_of m c.end c.tkey error again) b b (Some 0)
  no_outcome error again is = rw is (answers_none b)

  module _ (scheme : Scheme) (offer second : List ℕ) (p : Pair) (suffix : List ℕ) (time : ℕ) where
    pub no_renewal : c.tkey ≡ None → Replied (renewal_octets scheme m c offer second p suffix time) b b (Some 0)
    no_renewal is = rw is (answers_none b)

    pub no_echo : (place : ℕ) (t : TkeyFields) → c.tkey ≡ Some (record { place = place; fields = t }) → c.key ≡ None → Replied (renewal_octets scheme m c offer second p suffix time) b b (Some 0)
    no_echo place t is ik = rw (is, ik) (answers_none b)

-- ── What the decision fits ──────────────────────────────────────────────────────────────────────────────────────────

module _ (d : Decision) (p : Pair) (time : ℕ) (f : DecisionFits d p time) where
  pub refused_fits : (rcode error : ℕ) → d ≡ Refused rcode error → rcode < 256
  refused_fits rcode error is = rw is at f

  pub failed_fits : (error : ℕ) → d ≡ Failed error → error < 65536
  failed_fits error is = rw is at f

  pub renews_fits : (scheme : Scheme) (a : Algorithm) → d ≡ Renews scheme a → (p.next_serial < 2 ^ 32) × (time + p.lifetime < 2 ^ 64)
  renews_fits scheme a is = rw is at f

-- ── The whole reply ─────────────────────────────────────────────────────────────────────────────────────────────────

module _ {m : List ℕ} {c : Contents} {offer second : List ℕ} {p : Pair} {suffix : List ℕ} {time : ℕ} {d : Decision} {b b' : List ℕ} {w : Option ℕ} where
  -- no reply
  pub none_replies : ((h : Holder) (g : Given) (q : Message) → [] ≡ reply_of h g q d) → Replied [] b b' w → Replies m c offer second p suffix time d b b' w
  none_replies is s = record { answers = λ x h g hs hp ht ho hz. replied_as (is h g x.message) s }

  pub refused_replies : (rcode : ℕ) → ((h : Holder) (g : Given) (q : Message) → rcode_reply q rcode ≡ reply_of h g q d)
      → Replied (rcode_reply (framed m c.end) rcode) b b' w → Replies m c offer second p suffix time d b b' w
  refused_replies rcode is s = record { answers = λ x h g hs hp ht ho hz. replied_as (refused_reply x rcode ∙ is h g x.message) s }

  pub tkey_replies : (error : ℕ) → ((h : Holder) (g : Given) (q : Message) → tkey_reply q error ≡ reply_of h g q d)
      → Replied (outcome_of m c.end c.tkey error false) b b' w → Replies m c offer second p suffix time d b b' w
  tkey_replies error is s = record { answers = λ x h g hs hp ht ho hz. replied_as (tkey_reply_lem x c.tkey (only_tkey_lem x) error ∙ is h g x.message) s }

  pub readopted_replies : ((h : Holder) (g : Given) (q : Message) → readopted_reply q ≡ reply_of h g q d)
      → Replied (outcome_of m c.end c.tkey 0 true) b b' w → Replies m c offer second p suffix time d b b' w
  readopted_replies is s = record { answers = λ x h g hs hp ht ho hz. replied_as (readopted_reply_lem x c.tkey (only_tkey_lem x) ∙ is h g x.message) s }

  pub renewed_replies : (scheme : Scheme) (a : Algorithm) → d ≡ Renews scheme a
      → Replied (renewal_octets scheme m c offer second p suffix time) b b' w → Replies m c offer second p suffix time d b b' w
  unfolding reply_of
  renewed_replies scheme a is s =
      record {
        answers = λ x h g hs hp ht ho hz.
            let e : renewal_octets scheme m c offer second p suffix time ≡ renewal_octets scheme m c g.offer g.second (held_pair h) (held_suffix h) g.now =
            rw (hs, hp, ht, ho, hz) refl in
            replied_as (e ∙ renewed_reply_lem x c.tkey (only_tkey_lem x) c.key (only_key_lem x) h g scheme a ∙ rw is refl) s;
      }

pub quiet_replies :
    {m : List ℕ} {c : Contents} {offer second : List ℕ} {p : Pair} {suffix : List ℕ} {time : ℕ} (d : Decision) (b : List ℕ)
    → is_quiet d ≡ true
    → Replies m c offer second p suffix time d b b (Some 0)
unfolding reply_of
quiet_replies Unsigned b e = none_replies (λ h g q. refl) (answers_none b)
quiet_replies (Refused rcode error) b e = absurd (false≢true e)
quiet_replies (Passed skew) b e = none_replies (λ h g q. refl) (answers_none b)
quiet_replies (Failed error) b e = absurd (false≢true e)
quiet_replies (Renews scheme a) b e = absurd (false≢true e)
quiet_replies Adopts b e = absurd (false≢true e)
quiet_replies Readopts b e = absurd (false≢true e)
quiet_replies Deletes b e = absurd (false≢true e)
quiet_replies Withdraws b e = absurd (false≢true e)
