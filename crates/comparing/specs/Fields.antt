-- What the answers of the comparison say, against the crate model's fields of a message (02, CR 12). Assumes nothing.
use Rattle.std.specs.Prelude.{ℕ, ◌+◌, ◌≤◌, ◌≡◌, Bool, true, false, List, [], ◌∷◌, length, Option, None, Some}
use Rattle.model.specs.Octets.{u16_at, part, Reading, reads}
use Rattle.model.specs.Names.{read_name}
use Rattle.model.specs.Compare.{octets, Field, Placed, question_fields, record_fields, followed, fields_from, first_in}
use Rattle.comparing.specs.declared.Walk.{Walk}
use Rattle.comparing.specs.declared.Walk.TheVariants.{Differs, Ends, Same as GoesOn}

-- One field, by whether it is the same.
abbrev pub unless : Bool → ℕ → Option ℕ
unless true place = None
unless false place = Some place

-- ── Fields of octets ────────────────────────────────────────────────────────────────────────────────────────────────

-- How many octets fields of these widths have together.
abbrev pub total : List ℕ → ℕ
total [] = 0
total (n ∷ ns) = n + total ns

-- Such fields of m, one behind the other from `from` on; the first stands at `place`.
unfoldable pub octet_fields : List ℕ → ℕ → ℕ → List ℕ → List Placed
octet_fields m from place [] = []
octet_fields m from place (n ∷ ns) = record { place = place; field = octets (part m from n) } ∷ octet_fields m (from + n) (place + n) ns

-- ── A question, a record ────────────────────────────────────────────────────────────────────────────────────────────

-- A name stands at `at` of m and ends before `next`, and so many octets behind it.
pub record NameStands (m : List ℕ) (at next size : ℕ) : Type 0 where
  pub name : List ℕ
  pub named : read_name m at ≡ reads name next
  pub fits : next + size ≤ length m

-- How many octets a question and a record have behind a name that ends before `next`.
abbrev pub question_size : List ℕ → ℕ → ℕ
question_size m next = 4

abbrev pub record_size : List ℕ → ℕ → ℕ
record_size m next = 10 + u16_at m (next + 8)

-- What is read has fields, of which the first stands at `at`.
pub record Begins (at : ℕ) (r : Reading (List Placed)) : Type 0 where
  pub first : Field
  pub rest : List Placed
  pub end : ℕ
  pub says : r ≡ reads (record { place = at; field = first } ∷ rest) end

-- A question or a record stands at `at` of m and its name ends before that place, or none stands there and there is nothing to compare.
abbrev pub Stands : (List ℕ → ℕ → Reading (List Placed)) → (List ℕ → ℕ → ℕ) → List ℕ → ℕ → Option ℕ → Type 0
Stands fields size m at None = (on : ℕ → List Placed) → followed (fields m at) on ≡ []
Stands fields size m at (Some next) = NameStands m at next (size m next) × Begins at (fields m at)

-- ── Questions and records, and what follows ─────────────────────────────────────────────────────────────────────────

-- The first difference, where `on` tells it of what follows.
abbrev pub continued : Walk → (ℕ → ℕ → Option ℕ) → Option ℕ
continued (Differs place) on = Some place
continued Ends on = None
continued (GoesOn ours theirs) on = on ours theirs

-- The answer says where the first of these two things differ, whatever follows them.
pub record Told (end : ℕ) (ours theirs : Reading (List Placed)) (r : Walk) : Type 0 where
  pub says : (on off : ℕ → List Placed) → first_in end (followed ours on) (followed theirs off) ≡ continued r (λ p q. first_in end (on p) (off q))

-- The same of n things each, from two places on.
pub record ToldFrom (end : ℕ) (ours theirs : ℕ → Reading (List Placed)) (n i j : ℕ) (r : Walk) : Type 0 where
  pub says : (on off : ℕ → List Placed) → first_in end (fields_from ours on n i) (fields_from theirs off n j) ≡ continued r (λ p q. first_in end (on p) (off q))

-- How many records the header of m counts.
abbrev pub counted : List ℕ → ℕ
counted m = u16_at m 6 + (u16_at m 8 + u16_at m 10)

-- The fields of m behind its header, with n questions and k records.
abbrev pub body_of : List ℕ → ℕ → ℕ → List Placed
body_of m n k = fields_from (question_fields m) (λ at. fields_from (record_fields m) (λ end. []) k at) n 12

-- The answer says where these differ, as counted in theirs.
pub record BodyTold (ours theirs : List ℕ) (r : Walk) : Type 0 where
  pub says :
      first_in (length theirs) (body_of ours (u16_at theirs 4) (counted theirs)) (body_of theirs (u16_at theirs 4) (counted theirs)) ≡ continued r (λ p q. None)
