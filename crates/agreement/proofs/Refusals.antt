-- The resolver's refusals. Assumes nothing.
use Prim.Native.Nat.{ℕ, ◌≤◌}
use mathlib.Core.Path.{◌≡◌, refl}
use mathlib.Core.Bool.{Bool, true}
use mathlib.Core.List.{List, [], ◌∷◌}
use lib.Dec.{eqb, leb}
use lib.ListN.{length}
use borrow.Author.Tests.{leb-true}
use Rattle.std.specs.Prelude.{Option, Some, None}
use Rattle.model.specs.declared.Algorithm.{Algorithm}
use Rattle.model.specs.declared.Asking.{Asking}
use Rattle.model.specs.declared.Resolver.{Resolver}
use Rattle.model.specs.declared.SignWith.{SignWith}
use Rattle.model.specs.Octets.{put}
use Rattle.model.specs.Names.{wire_name}
use Rattle.model.specs.Messages.{Message, read_message}
use Rattle.model.specs.Tsig.{Signature, unsigned, misplaced, well_placed, signature}
use Rattle.model.specs.Calls.{room_for, size_ok}
use Rattle.model.specs.Tkey.{is_key_record}
use Rattle.model.specs.Resolver.{LOST, WRONGID, UNSIGNED, FORMAT, ROOM, NOKEY, adopted_key, offered_key, unwritten, sent, root_or, written_renewal, written_adoption, written_deletion, written_into, unheard, heard, signed_reply, awaited_reply, read_reply}
use Rattle.model.proofs.Buffers.{put_length}
use Rattle.model.proofs.Tests.{left, by_check, by_read, by_some}
use Rattle.guarantees.specs.Refusals.{is_one}
use Rattle.agreement.specs.Refusals.{Writes, Reads, Refusals}
use Rattle.model.specs.declared.OpenRequest.{OpenRequest}

-- ── Writing ─────────────────────────────────────────────────────────────────────────────────────────────────────────

module _ (s : Resolver) (buffer : List ℕ) where
  refused : (n : ℕ) → is_one n (0 ∷ NOKEY ∷ ROOM ∷ []) ≡ true → Writes s buffer (unwritten s n)
  unfolding unwritten written_into put
  refused n e = record { listed = e; keeps = λ _. refl; leaves = λ _. refl; fits = refl }

  no_key : Writes s buffer (unwritten s NOKEY)
  unfolding NOKEY ROOM
  no_key = refused NOKEY refl

  short : (octets : List ℕ) → room_for (length buffer) octets ≡ true → length octets ≤ length buffer
  unfolding room_for
  short octets e = leb-true (length octets) (length buffer) (left (leb (length octets) (length buffer)) _ e)

  sends : (octets : List ℕ) (signer : SignWith) (after : Resolver) → Writes s buffer (sent s (length buffer) octets signer after)
  unfolding sent NOKEY ROOM written_into
  sends octets signer after =
      by_check (Writes s buffer) (unwritten s) ROOM (refused ROOM refl) (room_for (length buffer) octets) λ e.
      record { listed = refl; keeps = λ n. absurd (n refl); leaves = λ n. absurd (n refl); fits = put_length octets buffer (short octets e) }

  renews : (id : ℕ) (name : List ℕ) (g : Algorithm) (inception expiration : ℕ) (key_record : List ℕ) → Writes s buffer (written_renewal s id name g inception expiration key_record (length buffer))
  unfolding written_renewal
  renews id name g inception expiration key_record =
      by_check (Writes s buffer) (unwritten s) NOKEY no_key (wire_name (root_or name)) λ _.
      by_check (Writes s buffer) (unwritten s) NOKEY no_key (is_key_record key_record) λ _.
      by_some (Writes s buffer) (unwritten s) NOKEY no_key (adopted_key s) λ a _.
      sends _ _ _

  adopts : (id : ℕ) → Writes s buffer (written_adoption s id (length buffer))
  unfolding written_adoption
  adopts id =
      by_some (Writes s buffer) (unwritten s) NOKEY no_key (adopted_key s) λ a _.
      by_some (Writes s buffer) (unwritten s) NOKEY no_key (offered_key s) λ o _.
      sends _ _ _

  deletes : (id : ℕ) → Writes s buffer (written_deletion s id (length buffer))
  unfolding written_deletion
  deletes id = by_some (Writes s buffer) (unwritten s) NOKEY no_key (adopted_key s) λ a _. sends _ _ _

-- ── Reading ─────────────────────────────────────────────────────────────────────────────────────────────────────────

module _ (s : Resolver) (good : Bool) (octets : List ℕ) where
  unread : (n : ℕ) → is_one n (0 ∷ FORMAT ∷ LOST ∷ WRONGID ∷ UNSIGNED ∷ []) ≡ true → Reads s (unheard s n)
  unfolding unheard
  unread n e = record { listed = e; keeps = λ _. refl; quiet = λ _. refl }

  signs : (asking : Asking) (m : Message) (g : Signature) → Reads s (signed_reply s asking octets m good g)
  unfolding FORMAT LOST WRONGID UNSIGNED heard
  signs asking m unsigned = unread UNSIGNED refl
  signs asking m misplaced = unread UNSIGNED refl
  signs asking m (well_placed t) =
      by_check (Reads s) (unheard s) UNSIGNED (unread UNSIGNED refl) good λ _.
      record { listed = refl; keeps = λ n. absurd (n refl); quiet = λ n. absurd (n refl) }

  waits : (o : Option OpenRequest) (m : Message) → Reads s (awaited_reply s o octets good m)
  unfolding FORMAT LOST WRONGID UNSIGNED
  waits None m = unread LOST refl
  waits (Some q) m = by_check (Reads s) (unheard s) WRONGID (unread WRONGID refl) (eqb m.id q.id) λ _. signs q.asking m (signature m.records)

  hears : Reads s (read_reply s good octets)
  unfolding read_reply FORMAT LOST WRONGID UNSIGNED
  hears =
      by_check (Reads s) (unheard s) FORMAT (unread FORMAT refl) (size_ok octets) λ _.
      by_read (Reads s) (unheard s) FORMAT (unread FORMAT refl) (read_message octets) λ m _ _. waits s.awaited m

pub refusals : Refusals
refusals = record {
  renewals = λ s id name g inception expiration key_record buffer. renews s buffer id name g inception expiration key_record;
  adoptions = λ s id buffer. adopts s buffer id;
  deletions = λ s id buffer. deletes s buffer id;
  replies = λ s good octets. hears s good octets;
}
