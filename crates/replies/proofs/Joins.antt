-- The replies that the code writes are model's, by what was read of the message. Assumes nothing.
use Prim.Native.Nat.{ℕ}
use Prim.Native.Nat.{◌+◌}
use mathlib.Core.Path.{◌≡◌, refl, sym, ap}
use mathlib.Core.Bool.{true, false}
use mathlib.Core.List.{List, append_assoc}
use Rattle.model.specs.declared.Algorithm.{Algorithm}
use Rattle.model.specs.Octets.{part}
use Rattle.model.specs.Messages.{message_of}
use Rattle.model.specs.Tkey.{Contents as ModelContents, only_tkey, only_key, contents_of}
use Rattle.model.specs.Pairs.{made}
use Rattle.model.specs.Judging.{Holder, held_suffix, held_pair, Given}
use Rattle.model.specs.declared.Scheme.{Scheme}
use Rattle.model.specs.declared.Scheme.TheVariants.{DiffieHellman, ServerAssignment, ResolverAssignment}
use Rattle.model.specs.Replies.{flags, heading, repeated, key_data, granted, answers_of, echoed, rcode_reply, tkey_reply, readopted_reply, granted_reply, renewed_reply}
use Rattle.std.specs.Prelude.{Option, None, Some}
use Rattle.tkey.specs.declared.TkeyFields.{TkeyFields}
use Rattle.tkey.specs.Fields.{tkey_from, tkey_shown}
use Rattle.tkey.specs.Key.{key_shown}
use Rattle.contents.specs.declared.Contents.{Contents}
use Rattle.contents.specs.Contents.{ContentsRead}
use Rattle.matching.specs.Compare.{name_standing}
use Rattle.replies.specs.Parts.{framed, key_data as keyPart, repeated_octets, renewed_octets, takes_offer, granted_octets}
use Rattle.replies.specs.Written.{outcome_of, renewal_for}
use Rattle.replies.proofs.Laws.{key_part}
use Rattle.tkey.specs.declared.OnlyTkey.{OnlyTkey}
use Rattle.tkey.specs.declared.OnlyKey.{OnlyKey}

module _ {m : List ℕ} {c : Contents} (x : ContentsRead m c) where
  -- A heading reads the header and the question section alone.
  heading_framed : (rcode answers additionals : ℕ) → heading x.message rcode answers additionals ≡ heading (framed m c.end) rcode answers additionals
  unfolding heading flags message_of
  heading_framed rcode answers additionals = rw (x.id, x.opcode, x.desired, x.asked, x.octets) refl

  pub only_tkey_lem : only_tkey x.message ≡ tkey_shown m c.tkey
  unfolding contents_of
  only_tkey_lem = ap (λ (z : ModelContents). z.tkey) x.contents

  pub only_key_lem : only_key x.message ≡ key_shown m c.key
  unfolding contents_of
  only_key_lem = ap (λ (z : ModelContents). z.key) x.contents

  pub refused_reply : (rcode : ℕ) → rcode_reply (framed m c.end) rcode ≡ rcode_reply x.message rcode
  unfolding rcode_reply
  refused_reply rcode = sym (heading_framed rcode 0 0)

  pub tkey_reply_lem : (t : Option OnlyTkey) → only_tkey x.message ≡ tkey_shown m t → (error : ℕ) → outcome_of m c.end t error false ≡ tkey_reply x.message error
  unfolding tkey_reply repeated repeated_octets
  tkey_reply_lem None is error = sym (rw is refl)
  tkey_reply_lem (Some t) is error = sym (rw (is, heading_framed 0 1 0) refl)

  -- the key is adopted already
  pub readopted_reply_lem : (t : Option OnlyTkey) → only_tkey x.message ≡ tkey_shown m t → outcome_of m c.end t 0 true ≡ readopted_reply x.message
  unfolding readopted_reply repeated repeated_octets part
  readopted_reply_lem None is = sym (rw is refl)
  readopted_reply_lem (Some t) is = sym (rw (is, heading_framed 0 1 0) refl)

  -- a granted renewal: the key data of its scheme
  key_same : (scheme : Scheme) (name : List ℕ) (t : TkeyFields) (offer : List ℕ)
      → keyPart (takes_offer scheme) m t.key.from (t.key.from + t.key.size) offer ≡ key_data scheme (tkey_from m name t) offer
  unfolding takes_offer key_data
  key_same DiffieHellman name t offer = refl
  key_same ServerAssignment name t offer = refl
  key_same ResolverAssignment name t offer = key_part m t.key offer

  pub renewed_reply_lem :
      (t : Option OnlyTkey) → only_tkey x.message ≡ tkey_shown m t → (k : Option OnlyKey) → only_key x.message ≡ key_shown m k → (h : Holder) (g : Given) (scheme : Scheme) (a : Algorithm)
      → renewal_for scheme m c.end t k g.offer g.second (held_pair h) (held_suffix h) g.now ≡ renewed_reply h g x.message scheme a
  unfolding renewed_reply granted_reply granted echoed made granted_octets renewed_octets repeated_octets
  renewed_reply_lem None is k ik h g scheme a = sym (rw is refl)
  renewed_reply_lem (Some t) is None ik h g scheme a = sym (rw (is, ik) refl)
  renewed_reply_lem (Some t) is (Some k) ik h g scheme a =
      sym (rw (is, ik, heading_framed 0 (answers_of scheme) 1, sym (key_same scheme (name_standing m t.place) t.fields g.offer)) (simp append_assoc))
