-- The resolver's refusals, as demand 1 has the table's: 02, CR 1, "Refusals: its own list, ..; reading checks 4, 1, 2, 3, writing 6, 5; each changes no key and
-- writes nothing". Assumes nothing.
use Rattle.std.specs.Prelude.{ℕ, ◌≡◌, Bool, true, false, List, [], ◌∷◌, length}
use Rattle.model.specs.declared.Algorithm.{Algorithm}
use Rattle.model.specs.declared.Resolver.{Resolver}
use Rattle.model.specs.declared.Heard.{Heard}
use Rattle.model.specs.Resolver.{LOST, WRONGID, UNSIGNED, FORMAT, ROOM, NOKEY, Writing, written_renewal, written_adoption, written_deletion, written_into, read_reply}
use Rattle.guarantees.specs.Refusals.{is_one}

-- A writing call of the resolver s that is lent this buffer.
pub record Writes (s : Resolver) (buffer : List ℕ) (w : Writing) : Type 0 where
  -- it ends with 0 or with a number of its list
  pub listed : is_one w.result.number (0 ∷ NOKEY ∷ ROOM ∷ []) ≡ true
  -- where it is refused, the resolver and every octet of the buffer are as they were
  pub keeps : ¬ (w.result.number ≡ 0) → w.result.state ≡ s
  pub leaves : ¬ (w.result.number ≡ 0) → written_into w buffer ≡ buffer
  -- done or refused, the buffer is as long as it was
  pub fits : length (written_into w buffer) ≡ length buffer

-- The reading call.
pub record Reads (s : Resolver) (h : Heard) : Type 0 where
  pub listed : is_one h.number (0 ∷ FORMAT ∷ LOST ∷ WRONGID ∷ UNSIGNED ∷ []) ≡ true
  pub keeps : ¬ (h.number ≡ 0) → h.state ≡ s
  pub quiet : ¬ (h.number ≡ 0) → h.due ≡ false

pub record Refusals : Type 0 where
  pub renewals :
      (s : Resolver) (id : ℕ) (name : List ℕ) (g : Algorithm) (inception expiration : ℕ) (key_record buffer : List ℕ)
      → Writes s buffer (written_renewal s id name g inception expiration key_record (length buffer))
  pub adoptions : (s : Resolver) (id : ℕ) (buffer : List ℕ) → Writes s buffer (written_adoption s id (length buffer))
  pub deletions : (s : Resolver) (id : ℕ) (buffer : List ℕ) → Writes s buffer (written_deletion s id (length buffer))
  pub replies : (s : Resolver) (good : Bool) (octets : List ℕ) → Reads s (read_reply s good octets)
