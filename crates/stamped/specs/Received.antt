-- What is promised of the octets under the MAC: what a receiver digests of the message that the finishing call wrote is what the sender digested. And the
-- refusals of the calls of `Received`. Assumes nothing.
use Rattle.std.specs.Prelude.{ℕ, ◌<◌, ◌≡◌, List, [], ◌∷◌, length, get_or}
use Rattle.model.specs.Calls.{SIZE, FORMAT, TIME, ROOM}
use Rattle.model.specs.Signing.{MACSIZE, Stamp, digested_request, digested_reply, finished_in}
use Rattle.model.specs.Received.{received_request, received_reply, received_later, digested_later}
use Rattle.stamped.specs.Refusals.{Writes}

-- A message m was finished with a TSIG: of its octets one is tested, as its elements are octets. The receiver lends as much as the sender did; the calls end
-- alike, with the same octets or, where these do not fit, with the same refusal.
pub record Received : Type 0 where
  pub same_request :
      (m name : List ℕ) (t : Stamp) (room lent : ℕ)
      → get_or m 11 0 < 256
      → (finished_in m name t room).number ≡ 0
      → received_request (finished_in m name t room).octets lent ≡ digested_request m name t lent
  pub same_reply :
      (mac m name : List ℕ) (t : Stamp) (room lent : ℕ)
      → get_or m 11 0 < 256
      → (finished_in m name t room).number ≡ 0
      → received_reply mac (finished_in m name t room).octets lent ≡ digested_reply mac m name t lent
  pub same_later :
      (prior before m name : List ℕ) (t : Stamp) (room lent : ℕ)
      → get_or m 11 0 < 256
      → (finished_in m name t room).number ≡ 0
      → received_later prior before (finished_in m name t room).octets lent ≡ digested_later prior before m t lent
  -- each call ends with 0 or with a number of its list, and a refusal leaves the lent buffer
  pub requests : (m buffer : List ℕ) → Writes (SIZE ∷ FORMAT ∷ ROOM ∷ []) buffer (received_request m (length buffer))
  pub replies : (mac m buffer : List ℕ) → Writes (SIZE ∷ FORMAT ∷ MACSIZE ∷ ROOM ∷ []) buffer (received_reply mac m (length buffer))
  pub later : (prior before m buffer : List ℕ) → Writes (SIZE ∷ FORMAT ∷ MACSIZE ∷ ROOM ∷ []) buffer (received_later prior before m (length buffer))
  pub signs_later :
      (prior before m : List ℕ) (t : Stamp) (buffer : List ℕ)
      → Writes (SIZE ∷ FORMAT ∷ TIME ∷ MACSIZE ∷ ROOM ∷ []) buffer (digested_later prior before m t (length buffer))
