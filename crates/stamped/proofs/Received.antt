-- What a receiver digests is what the sender digested; and the refusals of the calls of `Received`. Assumes nothing.
use Prim.Native.Nat.{ℕ, ◌≤◌, ◌<◌, ◌^◌}
use mathlib.Core.Path.{◌≡◌, refl, sym, ap, ◌∙◌}
use mathlib.Core.Bool.{true}
use mathlib.Core.List.{List, [], ◌∷◌}
use lib.Dec.{leb, ltb}
use lib.ListN.{length, get_or}
use borrow.Author.Tests.{le-leb, leb-true}
use Rattle.model.specs.Messages.{read_message}
use Rattle.model.specs.Tsig.{Tsig, signature}
use Rattle.model.specs.Checks.{check}
use Rattle.model.specs.Calls.{SIZE, FORMAT, TIME, ROOM, size_ok}
use Rattle.model.specs.Signing.{MACSIZE, Stamp, Assembled, unassembled, is_unsigned, request_digest, reply_digest, mac_ok, assembled, digested_request, digested_reply, finished_in}
use Rattle.model.specs.Received.{received, in_room, received_request, received_reply, later_digest, received_later, digested_later}
use Rattle.model.proofs.Tests.{by_check, by_read}
use Rattle.guarantees.specs.Refusals.{is_one}
use Rattle.stamped.specs.Refusals.{Writes}
use Rattle.stamped.specs.Received.{Received}
use Rattle.stamped.proofs.Refusals.{by_signed, refused, written}
use Rattle.stamped.proofs.Stamped.{on_receipt, bare_again, passes, later_passes, few}

-- ── The same octets ─────────────────────────────────────────────────────────────────────────────────────────────────

-- other data that fits a TSIG is no reason for ROOM
in_room_lem : (t : Stamp) (octets : List ℕ) (lent : ℕ) → length t.other ≤ 65535 → in_room lent octets ≡ assembled lent t octets
unfolding in_room assembled
in_room_lem t octets lent h = rw (le-leb (length t.other) 65535 h) refl

module _ (m name : List ℕ) (t : Stamp) (room lent : ℕ) (o : get_or m 11 0 < 256) (e : (finished_in m name t room).number ≡ 0) where
  same_request : received_request (finished_in m name t room).octets lent ≡ digested_request m name t lent
  unfolding received_request digested_request
  same_request =
      on_receipt m name t room e _
      ∙ ap (λ (x : List ℕ). in_room lent (request_digest x name t)) (bare_again m name t room e o)
      ∙ in_room_lem t (request_digest m name t) lent (few m name t room e)
      ∙ sym (passes m name t room e _)

  same_reply : (mac : List ℕ) → received_reply mac (finished_in m name t room).octets lent ≡ digested_reply mac m name t lent
  unfolding received_reply digested_reply
  same_reply mac =
      on_receipt m name t room e _
      ∙ ap (λ (x : List ℕ). check unassembled MACSIZE (mac_ok mac) (in_room lent (reply_digest mac x name t))) (bare_again m name t room e o)
      ∙ ap (check unassembled MACSIZE (mac_ok mac)) (in_room_lem t (reply_digest mac m name t) lent (few m name t room e))
      ∙ sym (passes m name t room e _)

  same_later : (prior before : List ℕ) → received_later prior before (finished_in m name t room).octets lent ≡ digested_later prior before m t lent
  unfolding received_later
  same_later prior before =
      on_receipt m name t room e _
      ∙ ap (λ (x : List ℕ). check unassembled MACSIZE (mac_ok prior) (in_room lent (later_digest prior before x t))) (bare_again m name t room e o)
      ∙ sym (later_passes m name t room e prior before lent)

-- ── Refusals ────────────────────────────────────────────────────────────────────────────────────────────────────────

module _ (numbers buffer : List ℕ) (size : is_one SIZE (0 ∷ numbers) ≡ true) (format : is_one FORMAT (0 ∷ numbers) ≡ true) where
  receives : (m : List ℕ) {next : Tsig → Assembled} → ((t : Tsig) → Writes numbers buffer (next t)) → Writes numbers buffer (received m next)
  unfolding received
  receives m f =
      by_check (Writes numbers buffer) unassembled SIZE (refused numbers buffer SIZE size) (size_ok m) λ _.
      by_read (Writes numbers buffer) unassembled FORMAT (refused numbers buffer FORMAT format) (read_message m) λ q _ _.
      by_signed (Writes numbers buffer) unassembled FORMAT (refused numbers buffer FORMAT format) (signature q.records) f

module _ (numbers buffer : List ℕ) (room : is_one ROOM (0 ∷ numbers) ≡ true) where
  roomy : (octets : List ℕ) → Writes numbers buffer (in_room (length buffer) octets)
  unfolding in_room
  roomy octets =
      by_check (Writes numbers buffer) unassembled ROOM (refused numbers buffer ROOM room) (leb (length octets) (length buffer)) λ e.
      written numbers buffer octets (leb-true _ _ e)

  by_mac : is_one MACSIZE (0 ∷ numbers) ≡ true → (mac octets : List ℕ)
      → Writes numbers buffer (check unassembled MACSIZE (mac_ok mac) (in_room (length buffer) octets))
  by_mac size mac octets = by_check (Writes numbers buffer) unassembled MACSIZE (refused numbers buffer MACSIZE size) (mac_ok mac) λ _. roomy octets

abbrev plain : List ℕ
plain = SIZE ∷ FORMAT ∷ ROOM ∷ []

abbrev given : List ℕ
given = SIZE ∷ FORMAT ∷ MACSIZE ∷ ROOM ∷ []

abbrev timed : List ℕ
timed = SIZE ∷ FORMAT ∷ TIME ∷ MACSIZE ∷ ROOM ∷ []

pub on_arrival : Received
unfolding SIZE FORMAT TIME ROOM MACSIZE received_request received_reply received_later digested_later
on_arrival =
    record {
      same_request = same_request;
      same_reply = λ mac m name t room lent o e. same_reply m name t room lent o e mac;
      same_later = λ prior before m name t room lent o e. same_later m name t room lent o e prior before;
      requests = λ m buffer. receives plain buffer refl refl m λ t. roomy plain buffer refl _;
      replies = λ mac m buffer. receives given buffer refl refl m λ t. by_mac given buffer refl refl mac _;
      later = λ prior before m buffer. receives given buffer refl refl m λ t. by_mac given buffer refl refl prior _;
      signs_later = λ prior before m t buffer.
          by_check (Writes timed buffer) unassembled SIZE (refused timed buffer SIZE refl) (size_ok m) λ _.
          by_read (Writes timed buffer) unassembled FORMAT (refused timed buffer FORMAT refl) (read_message m) λ q _ _.
          by_check (Writes timed buffer) unassembled FORMAT (refused timed buffer FORMAT refl) (is_unsigned (signature q.records)) λ _.
          by_check (Writes timed buffer) unassembled TIME (refused timed buffer TIME refl) (ltb t.signed (2 ^ 48)) λ _.
          by_mac timed buffer refl refl prior (later_digest prior before m t);
    }
