-- A refusal is of the state that was there; what a call ends with, stored and told. Assumes nothing.
use Prim.Native.Nat.{ℕ}
use mathlib.Core.Bool.{Bool, true, false}
use Rattle.model.specs.declared.Span.{Span}
use Rattle.std.specs.Prelude.{Option, None, Some}
use mathlib.Core.List.{List, [], ◌∷◌}
use mathlib.Core.Path.{◌≡◌, refl, sym, ap, ap₂, ◌∙◌}
use native.Mathlib.Decide.{ℕ_discrete}
use lib.Dec.{eqb}
use Rattle.model.specs.declared.Algorithm.{Algorithm}
use Rattle.model.specs.declared.ResolverKey.{ResolverKey}
use Rattle.model.specs.declared.Resolver.{Resolver}
use Rattle.model.specs.declared.SignWith.{SignWith}
use Rattle.model.specs.declared.Sending.{Sending}
use Rattle.model.specs.declared.Asking.{Asking}
use Rattle.model.specs.declared.Heard.{Heard}
use Rattle.model.specs.Octets.{put, Reading, stops, reads}
use Rattle.model.specs.Names.{wire_name, algorithm_numbered}
use Rattle.model.specs.Messages.{Message, read_message}
use Rattle.model.specs.Tsig.{Signature, unsigned, misplaced, well_placed, signature}
use Rattle.model.specs.Tkey.{is_key_record}
use Rattle.model.specs.Checks.{check, check_read, check_some}
use Rattle.model.specs.Calls.{size_ok, room_for}
use Rattle.model.specs.Resolver.{LOST, WRONGID, UNSIGNED, FORMAT, NOKEY, ROOM, adopted_key, offered_key, Writing, unwritten, sent, root_or, written_renewal, written_adoption, written_deletion, written_into, unheard, heard, signed_reply, awaited_reply, read_reply}
use Rattle.model.specs.Granted.{key_named, starting_with, Hold, unheld, held, numbered_renewal, granted_data}
use Rattle.resolver_state.specs.State.{resolver_of, Stored}
use Rattle.resolver_requests.specs.Sent.{Sent}
use Rattle.granted.specs.Brought.{DataRead}
use Rattle.capi_resolver.specs.Lent.{Moved, HoldLent, signer_word, SentLent, due_word, DataTold, HeardLent, heard_words, Kept}
use Rattle.model.specs.declared.OpenRequest.{OpenRequest}

-- ── Refusals of the writing calls ───────────────────────────────────────────────────────────────────────────────────

pub record Keeps (s : Resolver) (x : Writing) : Type 0 where
  pub same : (x.result.number ≡ 0 → ⊥) → x.result.state ≡ s

module _ (s : Resolver) where
  keeps_unwritten : (n : ℕ) → Keeps s (unwritten s n)
  unfolding unwritten
  keeps_unwritten n = record { same = λ h. refl }

  keeps_check : (n : ℕ) (b : Bool) (x : Writing) → Keeps s x → Keeps s (check (unwritten s) n b x)
  keeps_check n true x k = k
  keeps_check n false x k = keeps_unwritten n

  keeps_some : (n : ℕ) (o : Option ResolverKey) (f : ResolverKey → Writing) → ((a : ResolverKey) → Keeps s (f a)) → Keeps s (check_some (unwritten s) n o f)
  keeps_some n None f k = keeps_unwritten n
  keeps_some n (Some a) f k = k a

  keeps_sent : (room : ℕ) (octets : List ℕ) (signer : SignWith) (after : Resolver) → Keeps s (sent s room octets signer after)
  unfolding sent
  keeps_sent room octets signer after = keeps_check ROOM (room_for room octets) _ (record { same = λ h. absurd (h refl) })

  pub keeps_renewal : (id : ℕ) (name : List ℕ) (g : Algorithm) (inception expiration : ℕ) (key_record : List ℕ) (room : ℕ)
      → Keeps s (written_renewal s id name g inception expiration key_record room)
  unfolding written_renewal
  keeps_renewal id name g inception expiration key_record room =
      keeps_check NOKEY (wire_name (root_or name)) _
      (keeps_check NOKEY (is_key_record key_record) _
      (keeps_some NOKEY (adopted_key s) _ (λ a. keeps_sent room _ _ _)))

  pub keeps_adoption : (id room : ℕ) → Keeps s (written_adoption s id room)
  unfolding written_adoption
  keeps_adoption id room =
      keeps_some NOKEY (adopted_key s) _ (λ a.
      keeps_some NOKEY (offered_key s) _ (λ o. keeps_sent room _ _ _))

  pub keeps_deletion : (id room : ℕ) → Keeps s (written_deletion s id room)
  unfolding written_deletion
  keeps_deletion id room = keeps_some NOKEY (adopted_key s) _ (λ a. keeps_sent room _ _ _)

-- ── Refusals of the reading call ────────────────────────────────────────────────────────────────────────────────────

pub record KeepsHeard (s : Resolver) (h : Heard) : Type 0 where
  pub same : (h.number ≡ 0 → ⊥) → h.state ≡ s

module _ (s : Resolver) where
  keeps_unheard : (n : ℕ) → KeepsHeard s (unheard s n)
  unfolding unheard
  keeps_unheard n = record { same = λ h. refl }

  by_check : (n : ℕ) (b : Bool) (x : Heard) → KeepsHeard s x → KeepsHeard s (check (unheard s) n b x)
  by_check n true x k = k
  by_check n false x k = keeps_unheard n

  module _ (octets : List ℕ) (good : Bool) (m : Message) where
    by_signature : (asking : Asking) (g : Signature) → KeepsHeard s (signed_reply s asking octets m good g)
    unfolding heard
    by_signature asking unsigned = keeps_unheard UNSIGNED
    by_signature asking misplaced = keeps_unheard UNSIGNED
    by_signature asking (well_placed t) = by_check UNSIGNED good (heard s asking octets m t) (record { same = λ h. absurd (h refl) })

    by_request : (o : Option OpenRequest) → KeepsHeard s (awaited_reply s o octets good m)
    by_request None = keeps_unheard LOST
    by_request (Some q) =
        by_check WRONGID (eqb m.id q.id) (signed_reply s q.asking octets m good (signature m.records)) (by_signature q.asking (signature m.records))

  by_read : (n : ℕ) (x : Reading Message) (f : Message → Heard) → ((m : Message) → KeepsHeard s (f m)) → KeepsHeard s (check_read (unheard s) n x f)
  by_read n (stops place) f k = keeps_unheard n
  by_read n (reads m end) f k = k m

  pub keeps_reply : (good : Bool) (octets : List ℕ) → KeepsHeard s (read_reply s good octets)
  unfolding read_reply
  keeps_reply good octets =
      by_check FORMAT (size_ok octets) (check_read (unheard s) FORMAT (read_message octets) (awaited_reply s s.awaited octets good))
      (by_read FORMAT (read_message octets) (awaited_reply s s.awaited octets good) (λ m. by_request octets good m s.awaited))

-- ── What is stored ──────────────────────────────────────────────────────────────────────────────────────────────────

pub kept_refused : (number : ℕ) (after : Resolver) (w n : List ℕ) → (number ≡ 0 → ⊥) → Kept number after w n w n number
kept_refused number after w n h = record { returned = refl; done = λ e. absurd (h e); refused = λ g. (refl, refl) }

pub kept_done : (number : ℕ) (after : Resolver) (w n w' n' : List ℕ) → number ≡ 0 → Stored after w' n' → Kept number after w n w' n' number
kept_done number after w n w' n' e s = record { returned = refl; done = λ f. s.shows; refused = λ h. absurd (h e) }

pub moves : {number : ℕ} {after : Resolver} {w n w' n' : List ℕ} {r : ℕ} → Kept number after w n w' n' r → ((number ≡ 0 → ⊥) → after ≡ resolver_of w n)
    → Moved number after w n w' n' r
moves {number} {after} {w} {n} {w'} {n'} {r} k same = record {
  state = by (ℕ_discrete number 0);
  returned = k.returned;
  refused = λ h. k.refused (λ e. h (k.returned ∙ e));
}
  where
    by : Dec (number ≡ 0) → resolver_of w' n' ≡ after
    by (yes e) = k.done e
    by (no h) = let x = k.refused h in ap₂ resolver_of x.0 x.1 ∙ sym (same h)

-- a writing call: s was read from w and n, the call answered q, which was told and kept
module _ (call : Resolver → Writing) (keeps : (s : Resolver) → Keeps s (call s)) where
  pub sends : {w n w' n' t b b' : List ℕ} {s : Resolver} {q : Sending} {r : ℕ} → s ≡ resolver_of w n → Sent (call s) b b' q
      → t ≡ q.length ∷ signer_word q.signer ∷ [] → Kept q.number q.state w n w' n' r → SentLent (call (resolver_of w n)) w n w' n' t b b' r
  sends {w} {n} {w'} {n'} {t} {b} {b'} {s} {q} {r} e z o k =
      let x = call (resolver_of w n) in
      let i : q ≡ x.result = z.result ∙ ap (λ (y : Resolver). (call y).result) e in
      let k' : Kept x.result.number x.result.state w n w' n' r = rw i at k in
      record {
        moved = moves k' (keeps (resolver_of w n)).same;
        told = o ∙ ap (λ (y : Sending). y.length ∷ signer_word y.signer ∷ []) i;
        left = z.left ∙ ap (λ (y : Resolver). written_into (call y) b) e;
      }

-- ── What the reading call tells ─────────────────────────────────────────────────────────────────────────────────────

tells : (m : List ℕ) (due : Bool) (x : Option (List ℕ)) (f : Option Span) (told : List ℕ) → DataRead x m f → told ≡ heard_words due f
    → DataTold m (due_word due) x told
tells m due x None told r e = rw r.says e
tells m due x (Some p) told r e = rw r.says (p.from, p.size, e, r.fits, refl)

pub hears : (m : List ℕ) (good : Bool) {w n w' n' t : List ℕ} {s : Resolver} {q : Heard} {f : Option Span} {r : ℕ} → s ≡ resolver_of w n
    → DataRead (granted_data s good m) m f → q ≡ read_reply s good m → t ≡ heard_words q.due f → Kept q.number q.state w n w' n' r
    → HeardLent (read_reply (resolver_of w n) good m) m (granted_data (resolver_of w n) good m) w n w' n' t r
hears m good {w} {n} {w'} {n'} {t} {s} {q} {f} {r} e d z o k =
    let h = read_reply (resolver_of w n) good m in
    let i : q ≡ h = z ∙ ap (λ (y : Resolver). read_reply y good m) e in
    let k' : Kept h.number h.state w n w' n' r = rw i at k in
    let d' : DataRead (granted_data (resolver_of w n) good m) m f = rw e at d in
    record {
      moved = moves k' (keeps_reply (resolver_of w n) good m).same;
      told = tells m h.due (granted_data (resolver_of w n) good m) f t d' (o ∙ ap (λ (y : Heard). heard_words y.due f) i);
    }

-- ── An algorithm by its number ──────────────────────────────────────────────────────────────────────────────────────

module _ (s : Resolver) (id : ℕ) (name : List ℕ) (algorithm inception expiration : ℕ) (key_record : List ℕ) (room : ℕ) where
  known_renewal : (g : Algorithm) → algorithm_numbered algorithm ≡ Some g
      → written_renewal s id name g inception expiration key_record room ≡ numbered_renewal s id name algorithm inception expiration key_record room
  unfolding numbered_renewal
  known_renewal g e = rw e refl

  unknown_renewal : algorithm_numbered algorithm ≡ None → unwritten s NOKEY ≡ numbered_renewal s id name algorithm inception expiration key_record room
  unfolding numbered_renewal
  unknown_renewal e = rw e refl

unwritten_lent : (w n b : List ℕ) → SentLent (unwritten (resolver_of w n) NOKEY) w n w n (0 ∷ 0 ∷ []) b b 6
unfolding unwritten NOKEY written_into put
unwritten_lent w n b = record { moved = record { state = refl; returned = refl; refused = λ h. (refl, refl) }; told = refl; left = refl }

pub renewal_unknown : (w n : List ℕ) (id : ℕ) (name : List ℕ) (algorithm inception expiration : ℕ) (key_record : List ℕ) (room : ℕ) (b told : List ℕ)
    → algorithm_numbered algorithm ≡ None → told ≡ 0 ∷ 0 ∷ []
    → SentLent (numbered_renewal (resolver_of w n) id name algorithm inception expiration key_record room) w n w n told b b 6
renewal_unknown w n id name algorithm inception expiration key_record room b told e t =
    rw (← unknown_renewal (resolver_of w n) id name algorithm inception expiration key_record room e, t) (unwritten_lent w n b)

pub renewal_known : (w n : List ℕ) (id : ℕ) (name : List ℕ) (algorithm inception expiration : ℕ) (key_record : List ℕ) (room : ℕ) (w' n' t b b' : List ℕ) (r : ℕ)
    (g : Algorithm) → algorithm_numbered algorithm ≡ Some g
    → SentLent (written_renewal (resolver_of w n) id name g inception expiration key_record room) w n w' n' t b b' r
    → SentLent (numbered_renewal (resolver_of w n) id name algorithm inception expiration key_record room) w n w' n' t b b' r
renewal_known w n id name algorithm inception expiration key_record room w' n' t b b' r g e x =
    rw (known_renewal (resolver_of w n) id name algorithm inception expiration key_record room g e) at x

-- ── Holding a key ───────────────────────────────────────────────────────────────────────────────────────────────────

module _ (w n name : List ℕ) (algorithm inception expiration : ℕ) where
  abbrev holds : Hold
  holds = held (resolver_of w n) name algorithm inception expiration

  refused : holds ≡ unheld (resolver_of w n) NOKEY → HoldLent holds w n w n 6
  unfolding unheld NOKEY
  refused e = rw e (record { state = refl; returned = refl; refused = λ h. (refl, refl) })

  pub no_name : wire_name name ≡ false → HoldLent holds w n w n 6
  unfolding held
  no_name e = refused (rw e refl)

  pub no_algorithm : wire_name name ≡ true → algorithm_numbered algorithm ≡ None → HoldLent holds w n w n 6
  unfolding held
  no_algorithm e f = refused (rw (e, f) refl)

  pub holding : wire_name name ≡ true → (g : Algorithm) → algorithm_numbered algorithm ≡ Some g → (w' n' : List ℕ) (k : ResolverKey) (s : Resolver)
      → k ≡ key_named name g inception expiration → s ≡ starting_with k → Stored s w' n' → HoldLent holds w n w' n' 0
  unfolding held
  holding e g f w' n' k s i j d =
      rw (e, f) (record { state = d.shows ∙ j ∙ ap starting_with i; returned = refl; refused = λ h. absurd (h refl) })
