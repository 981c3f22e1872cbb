-- The refusals of the signing calls. Assumes nothing.
use Prim.Native.Nat.{ℕ, ◌≤◌, ◌^◌}
use mathlib.Core.Path.{◌≡◌, refl}
use mathlib.Core.Bool.{true, ◌&&◌}
use mathlib.Core.List.{List, [], ◌∷◌}
use lib.Dec.{leb, ltb}
use lib.ListN.{length}
use borrow.Author.Tests.{leb-true}
use Rattle.model.specs.Octets.{put}
use Rattle.model.specs.Names.{wire_name}
use Rattle.model.specs.Messages.{read_message}
use Rattle.model.specs.Tsig.{Tsig, Signature, unsigned, misplaced, well_placed, signature}
use Rattle.model.specs.Calls.{SIZE, FORMAT, NAME, TIME, ROOM, size_ok, room_for}
use Rattle.model.specs.Signing.{MACSIZE, Stamp, Assembled, unassembled, is_unsigned, signable, mac_ok, assembled, digested_request, digested_reply, finished, finished_in, assembled_into, unread, check_signed, read_back, removed, removed_in}
use Rattle.model.proofs.Buffers.{put_length}
use Rattle.model.proofs.Tests.{left, right, by_check, by_read}
use Rattle.guarantees.specs.Refusals.{is_one}
use Rattle.stamped.specs.Refusals.{Writes, Reads, Refusals}

-- A TSIG that must be well placed.
pub by_signed : {B : Type 0} (P : B → Type 0) (refuse : ℕ → B) (n : ℕ) → P (refuse n) → (s : Signature) {next : Tsig → B} → ((t : Tsig) → P (next t)) → P (check_signed refuse n s next)
by_signed P refuse n r unsigned f = r
by_signed P refuse n r misplaced f = r
by_signed P refuse n r (well_placed t) f = f t

module _ (numbers buffer : List ℕ) where
  pub refused : (n : ℕ) → is_one n (0 ∷ numbers) ≡ true → Writes numbers buffer (unassembled n)
  unfolding unassembled assembled_into put
  refused n e = record { listed = e; leaves = λ _. refl; fits = refl }

  pub written : (octets : List ℕ) → length octets ≤ length buffer → Writes numbers buffer (record { number = 0; octets = octets })
  unfolding assembled_into
  written octets h = record { listed = refl; leaves = λ n. absurd (n refl); fits = put_length octets buffer h }

-- SIZE to TIME, whatever list these stand in.
module _ (numbers buffer : List ℕ) (size : is_one SIZE (0 ∷ numbers) ≡ true) (format : is_one FORMAT (0 ∷ numbers) ≡ true) (named : is_one NAME (0 ∷ numbers) ≡ true) (time : is_one TIME (0 ∷ numbers) ≡ true) where
  signs : (m name : List ℕ) (t : Stamp) (next : Assembled) → Writes numbers buffer next → Writes numbers buffer (signable m name t next)
  unfolding signable
  signs m name t next w =
      by_check (Writes numbers buffer) unassembled SIZE (refused numbers buffer SIZE size) (size_ok m) λ _.
      by_read (Writes numbers buffer) unassembled FORMAT (refused numbers buffer FORMAT format) (read_message m) λ q _ _.
      by_check (Writes numbers buffer) unassembled FORMAT (refused numbers buffer FORMAT format) (is_unsigned (signature q.records)) λ _.
      by_check (Writes numbers buffer) unassembled NAME (refused numbers buffer NAME named) (wire_name name && wire_name t.algorithm) λ _.
      by_check (Writes numbers buffer) unassembled TIME (refused numbers buffer TIME time) (ltb t.signed (2 ^ 48)) λ _.
      w

module _ (numbers buffer : List ℕ) (room : is_one ROOM (0 ∷ numbers) ≡ true) where
  assembles : (t : Stamp) (octets : List ℕ) → Writes numbers buffer (assembled (length buffer) t octets)
  unfolding assembled
  assembles t octets =
      by_check (Writes numbers buffer) unassembled ROOM (refused numbers buffer ROOM room) (leb (length t.other) 65535 && leb (length octets) (length buffer)) λ e.
      written numbers buffer octets (leb-true _ _ (right (leb (length t.other) 65535) _ e))

abbrev first : List ℕ
first = SIZE ∷ FORMAT ∷ NAME ∷ TIME ∷ ROOM ∷ []

abbrev all : List ℕ
all = SIZE ∷ FORMAT ∷ NAME ∷ TIME ∷ MACSIZE ∷ ROOM ∷ []

abbrev last : List ℕ
last = SIZE ∷ FORMAT ∷ ROOM ∷ []

pub refusals : Refusals
unfolding SIZE FORMAT NAME TIME ROOM MACSIZE digested_request digested_reply finished_in read_back removed_in room_for unread
refusals = record {
  requests = λ m name t buffer. signs first buffer refl refl refl refl m name t _ (assembles first buffer refl t _);
  replies = λ mac m name t buffer.
      signs all buffer refl refl refl refl m name t _
      (by_check (Writes all buffer) unassembled MACSIZE (refused all buffer MACSIZE refl) (mac_ok mac) λ _. assembles all buffer refl t _);
  finishes = λ m name t buffer.
      signs all buffer refl refl refl refl m name t _
      (by_check (Writes all buffer) unassembled MACSIZE (refused all buffer MACSIZE refl) (mac_ok t.mac) λ _.
      by_check (Writes all buffer) unassembled ROOM (refused all buffer ROOM refl) (room_for (length buffer) (finished m name t)) λ e.
      written all buffer (finished m name t) (leb-true _ _ (left (leb (length (finished m name t)) (length buffer)) _ e)));
  reads_back = λ m.
      by_check Reads unread SIZE (record { listed = refl; nothing = λ _. refl }) (size_ok m) λ _.
      by_read Reads unread FORMAT (record { listed = refl; nothing = λ _. refl }) (read_message m) λ q _ _.
      by_signed Reads unread FORMAT (record { listed = refl; nothing = λ _. refl }) (signature q.records) λ t.
      record { listed = refl; nothing = λ n. absurd (n refl) };
  removes = λ m buffer.
      by_check (Writes last buffer) unassembled SIZE (refused last buffer SIZE refl) (size_ok m) λ _.
      by_read (Writes last buffer) unassembled FORMAT (refused last buffer FORMAT refl) (read_message m) λ q _ _.
      by_signed (Writes last buffer) unassembled FORMAT (refused last buffer FORMAT refl) (signature q.records) λ t.
      by_check (Writes last buffer) unassembled ROOM (refused last buffer ROOM refl) (leb (length (removed m)) (length buffer)) λ e.
      written last buffer (removed m) (leb-true _ _ e);
}
