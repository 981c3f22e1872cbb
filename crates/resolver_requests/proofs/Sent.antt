-- Each way that a writing call ends: refused, no room, sent. Assumes nothing.
use Prim.Native.Nat.{ℕ}
use mathlib.Core.Path.{◌≡◌, refl, ap, sym, subst, ◌∙◌}
use mathlib.Core.Bool.{true, false, not}
use Rattle.std.specs.Prelude.{Option, None, Some, Result, Ok, Err, ok_or}
use Rattle.resolver_requests.specs.declared.Refusal.{Refusal}
use Rattle.resolver_requests.specs.declared.Refusal.TheVariants.{Room, NoKey}
use mathlib.Core.List.{List}
use lib.ListN.{length}
use Rattle.model.specs.declared.Algorithm.{Algorithm}
use Rattle.model.specs.declared.ResolverKey.{ResolverKey}
use Rattle.model.specs.declared.Asking.TheVariants as Asking
use Rattle.model.specs.declared.Resolver.{Resolver}
use Rattle.model.specs.declared.SignWith.{SignWith}
use Rattle.model.specs.declared.Sending.{Sending}
use Rattle.model.specs.Octets.{put}
use Rattle.model.specs.Names.{wire_name}
use Rattle.model.specs.Tkey.{is_key_record}
use Rattle.model.specs.Resolver.{NOKEY, ROOM, Writing, name_of, adopted_key, offered_key, opened, unwritten, sent, renewal_octets, adoption_octets, deletion_octets, turn, root_or, written_renewal, written_adoption, written_deletion, written_into}
use Rattle.replies.specs.Parts.{Replied}
use Rattle.resolver_requests.specs.Sent.{Sent, sending_by}

-- ── No key ──────────────────────────────────────────────────────────────────────────────────────────────────────────

refusal_in : {A : Type 0} → Result A Refusal → Refusal
refusal_in (Ok x) = NoKey
refusal_in (Err e) = e

-- what a key that is not there is refused with
pub no_key : {A : Type 0} (o : Option A) (e : Refusal) → ok_or o NoKey ≡ Err e → o ≡ None → e ≡ NoKey
unfolding refusal_in
no_key {A = A} o e v h = sym (ap refusal_in (subst (λ (x : Option A). ok_or x NoKey ≡ Err e) h v))

-- ── The ends of a writing call ──────────────────────────────────────────────────────────────────────────────────────

module _ (s : Resolver) where
  refused : (b : List ℕ) → Sent (unwritten s NOKEY) b b (unwritten s 6).result
  unfolding unwritten NOKEY written_into put
  refused b = record { result = refl; left = refl }

  went : (octets b b' : List ℕ) (n : Option ℕ) (signer : SignWith) (after : Resolver) (r : Result ℕ Refusal) → Replied octets b b' n
      → r ≡ ok_or n Room → Sent (sent s (length b) octets signer after) b b' (sending_by s signer after r)
  unfolding sent unwritten ROOM written_into put
  went octets b b' None signer after r w e = let x = w.says in rw (e, x.0) (record { result = refl; left = x.1 })
  went octets b b' (Some n) signer after r w e = let x = w.says in rw (e, x.0) (record { result = rw x.1 refl; left = x.2 })

-- a deletion and an adoption
module _ (s : Resolver) (id : ℕ) (b : List ℕ) where
  pub deletion_refused : adopted_key s ≡ None → Sent (written_deletion s id (length b)) b b (unwritten s 6).result
  unfolding written_deletion
  deletion_refused h = rw h (refused s b)

  pub adoption_refused : adopted_key s ≡ None → Sent (written_adoption s id (length b)) b b (unwritten s 6).result
  unfolding written_adoption
  adoption_refused h = rw h (refused s b)

  -- the adopted key a, whose name is x
  module _ (a : ResolverKey) (h : adopted_key s ≡ Some a) where
    pub adoption_unoffered : offered_key s ≡ None → Sent (written_adoption s id (length b)) b b (unwritten s 6).result
    unfolding written_adoption
    adoption_unoffered f = rw (h, f) (refused s b)

    module _ (x : List ℕ) (named : x ≡ name_of a) (b' : List ℕ) (n : Option ℕ) (r : Result ℕ Refusal) (e : r ≡ ok_or n Room) where
      pub deletion_sent : Replied (deletion_octets id x a.algorithm) b b' n
          → Sent (written_deletion s id (length b)) b b' (sending_by s SignWith.AdoptedKey (opened s id Asking.Deletion s.offered_signs) r)
      unfolding written_deletion
      deletion_sent w = rw (h, ← named) (went s (deletion_octets id x a.algorithm) b b' n SignWith.AdoptedKey _ r w e)

      -- the offered key q, whose name is y
      pub adoption_sent : (q : ResolverKey) → offered_key s ≡ Some q → (y : List ℕ) → y ≡ name_of q
          → Replied (adoption_octets id y q.algorithm q.inception q.expiration x a.algorithm) b b' n
          → Sent (written_adoption s id (length b)) b b' (sending_by s (turn s.offered_signs) (opened s id Asking.Adoption (not s.offered_signs)) r)
      unfolding written_adoption
      adoption_sent q f y called w =
          rw (h, f, ← named, ← called)
          (went s (adoption_octets id y q.algorithm q.inception q.expiration x a.algorithm) b b' n (turn s.offered_signs) _ r w e)

-- a renewal
module _ (s : Resolver) (id : ℕ) (name : List ℕ) (g : Algorithm) (inception expiration : ℕ) (key b : List ℕ) where
  -- under the name y
  module _ (y : List ℕ) (rooted : y ≡ root_or name) where
    pub renewal_unnamed : wire_name y ≡ false → Sent (written_renewal s id name g inception expiration key (length b)) b b (unwritten s 6).result
    unfolding written_renewal
    renewal_unnamed f = rw (← rooted, f) (refused s b)

    module _ (w : wire_name y ≡ true) where
      pub renewal_no_key : is_key_record key ≡ false → Sent (written_renewal s id name g inception expiration key (length b)) b b (unwritten s 6).result
      unfolding written_renewal
      renewal_no_key f = rw (← rooted, w, f) (refused s b)

      module _ (k : is_key_record key ≡ true) where
        pub renewal_refused : adopted_key s ≡ None → Sent (written_renewal s id name g inception expiration key (length b)) b b (unwritten s 6).result
        unfolding written_renewal
        renewal_refused h = rw (← rooted, w, k, h) (refused s b)

        pub renewal_sent : (a : ResolverKey) → adopted_key s ≡ Some a → (x : List ℕ) → x ≡ name_of a → (b' : List ℕ) (n : Option ℕ) (r : Result ℕ Refusal)
            → Replied (renewal_octets id y g inception expiration x a.algorithm key) b b' n
            → r ≡ ok_or n Room
            → Sent (written_renewal s id name g inception expiration key (length b)) b b'
            (sending_by s SignWith.AdoptedKey (opened s id Asking.Renewal s.offered_signs) r)
        unfolding written_renewal
        renewal_sent a h x named b' n r d e =
            rw (← rooted, w, k, h, ← named)
            (went s (renewal_octets id y g inception expiration x a.algorithm key) b b' n SignWith.AdoptedKey _ r d e)

-- ── What is returned ────────────────────────────────────────────────────────────────────────────────────────────────

-- by what the writer of the request answered
module _ (w : Writing) (b b' : List ℕ) (s : Resolver) (signer : SignWith) (after : Resolver) (o : Result ℕ Refusal) (h : Sent w b b' (sending_by s signer after o)) where
  returned : (r : Sending) → r ≡ sending_by s signer after o → Sent w b b' r
  returned r e = subst (λ (x : Sending). Sent w b b' x) (sym e) h

  pub by_length : (n : ℕ) → o ≡ Ok n → (x : SignWith) → x ≡ signer → (y : Resolver) → y ≡ after → (r : Sending)
      → ((s : Resolver) → r ≡ sending_by s x y (Ok n)) → Sent w b b' r
  by_length n e x p y q r k = returned r (k s ∙ rw (p, q, e) refl)

  pub by_refusal : (e : Refusal) → o ≡ Err e → (r : Sending) → ((x : SignWith) → (y : Resolver) → r ≡ sending_by s x y (Err e)) → Sent w b b' r
  by_refusal e i r k = returned r (k signer after ∙ rw i refl)
