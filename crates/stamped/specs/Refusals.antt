-- The refusals of the signing calls, as demand 1 has the table's: 02, CR 3, "Refusals, in order: SIZE, FORMAT .., NAME .., TIME .., 16 MACSIZE .., ROOM ..".
-- Assumes nothing.
use Rattle.std.specs.Prelude.{ℕ, ◌≡◌, true, List, [], ◌∷◌, length, None}
use Rattle.model.specs.Calls.{SIZE, FORMAT, NAME, TIME, ROOM}
use Rattle.model.specs.Signing.{MACSIZE, Stamp, Assembled, digested_request, digested_reply, finished_in, assembled_into, ReadBack, read_back, removed_in}
use Rattle.guarantees.specs.Refusals.{is_one}

-- A call that writes into this lent buffer.
pub record Writes (numbers : List ℕ) (buffer : List ℕ) (a : Assembled) : Type 0 where
  -- it ends with 0 or with a number of its list
  pub listed : is_one a.number (0 ∷ numbers) ≡ true
  -- where it is refused, every octet of the buffer is as it was
  pub leaves : ¬ (a.number ≡ 0) → assembled_into a buffer ≡ buffer
  -- done or refused, the buffer is as long as it was
  pub fits : length (assembled_into a buffer) ≡ length buffer

-- The call that reads a TSIG back: a refusal has none.
pub record Reads (r : ReadBack) : Type 0 where
  pub listed : is_one r.number (0 ∷ SIZE ∷ FORMAT ∷ []) ≡ true
  pub nothing : ¬ (r.number ≡ 0) → r.tsig ≡ None

pub record Refusals : Type 0 where
  pub requests : (m name : List ℕ) (t : Stamp) (buffer : List ℕ) → Writes (SIZE ∷ FORMAT ∷ NAME ∷ TIME ∷ ROOM ∷ []) buffer (digested_request m name t (length buffer))
  pub replies :
      (mac m name : List ℕ) (t : Stamp) (buffer : List ℕ)
      → Writes (SIZE ∷ FORMAT ∷ NAME ∷ TIME ∷ MACSIZE ∷ ROOM ∷ []) buffer (digested_reply mac m name t (length buffer))
  pub finishes :
      (m name : List ℕ) (t : Stamp) (buffer : List ℕ) → Writes (SIZE ∷ FORMAT ∷ NAME ∷ TIME ∷ MACSIZE ∷ ROOM ∷ []) buffer (finished_in m name t (length buffer))
  pub reads_back : (m : List ℕ) → Reads (read_back m)
  pub removes : (m buffer : List ℕ) → Writes (SIZE ∷ FORMAT ∷ ROOM ∷ []) buffer (removed_in m (length buffer))
