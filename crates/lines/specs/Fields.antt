-- The fields of a line by the places of their separators, and what the functions that read them leave. Assumes nothing.
use Rattle.std.specs.Prelude.{ℕ, suc, ◌+◌, ◌-◌, ◌≤◌, ◌<◌, ◌≡◌, Bool, cond, not, ◌&&◌, ◌||◌, List, [], ◌∷◌, length, take, drop, leb, eqb, Option, None, Some}
use Rattle.model.specs.Tables.{every}
use Rattle.model.specs.Lines.{plain_number, suffix_said, given, field, no_more, worded}
use Rattle.lines.specs.declared.Field.{Field}

-- ── By places ───────────────────────────────────────────────────────────────────────────────────────────────────────

-- The octets of the first field, up to its tab or newline.
abbrev pub field_size : List ℕ → ℕ
field_size [] = 0
field_size (c ∷ cs) = cond (eqb c 9 || eqb c 10) 0 (suc (field_size cs))

pub record FieldEnds (l : List ℕ) (from r : ℕ) : Type 0 where
  pub ends : r ≡ from + field_size (drop from l)
  pub more : from ≤ r
  pub within : r ≤ length l

-- The further fields of a line that begins with this word.
unfoldable pub headed : List ℕ → List ℕ → Option (List (List ℕ))
headed word l = worded word l Some

-- The fields behind the separator at a place: there the first field is empty.
unfoldable pub further_at : List ℕ → ℕ → Option (List (List ℕ))
further_at l at = headed [] (drop at l)

-- What the first of them says, and the fields behind it.
abbrev pub and_rest : {A : Type 0} → A → List (List ℕ) → Option (A × List (List ℕ))
and_rest a rest = Some (a, rest)

unfoldable pub taken : {A : Type 0} → (List ℕ → Option A) → List ℕ → ℕ → Option (A × List (List ℕ))
taken says l at = given (further_at l at) λ fs. field says fs and_rest

-- Three numbers, the last fields of a line, behind the separator at a place.
abbrev pub triple_said : List (List ℕ) → Option (ℕ × ℕ × ℕ)
triple_said fs =
    field plain_number fs λ a fs.
    field plain_number fs λ b fs.
    field plain_number fs λ c fs.
    no_more fs (a, b, c)

unfoldable pub last_numbers : List ℕ → ℕ → Option (ℕ × ℕ × ℕ)
last_numbers l at = given (further_at l at) triple_said

-- ── As the functions answer ─────────────────────────────────────────────────────────────────────────────────────────

-- a, and the fields behind the separator at `next`.
abbrev pub up_to : {A : Type 0} → List ℕ → A → ℕ → Option (A × List (List ℕ))
up_to l a next = given (further_at l next) (and_rest a)

abbrev pub place_shown : List ℕ → Option ℕ → Option (List (List ℕ))
place_shown l (Some next) = further_at l next
place_shown l None = None

-- A field as it stands.
abbrev pub word_shown : List ℕ → ℕ → Option ℕ → Option (List ℕ × List (List ℕ))
word_shown l at (Some next) = up_to l (take (next - (at + 1)) (drop (at + 1) l)) next
word_shown l at None = None

pub record FieldTaken (l : List ℕ) (at : ℕ) (r : Option ℕ) : Type 0 where
  pub says : taken Some l at ≡ word_shown l at r
  pub bound : (next : ℕ) → r ≡ Some next → (at < next) × (next ≤ length l)

abbrev pub field_shown : {A : Type 0} → List ℕ → Option (Field A) → Option (A × List (List ℕ))
field_shown l (Some f) = up_to l f.said f.next
field_shown l None = None

-- A suffix stands at the front of the lent buffer.
abbrev pub suffix_shown : List ℕ → List ℕ → Option (Field ℕ) → Option (List ℕ × List (List ℕ))
suffix_shown l out (Some f) = up_to l (take f.said out) f.next
suffix_shown l out None = None

pub record SuffixTaken (l : List ℕ) (at : ℕ) (entry exit : List ℕ) (r : Option (Field ℕ)) : Type 0 where
  pub says : taken suffix_said l at ≡ suffix_shown l exit r
  pub long : length exit ≡ length entry
  pub bound : (f : Field ℕ) → r ≡ Some f → f.said ≤ 128

-- ── Hexadecimal digits ──────────────────────────────────────────────────────────────────────────────────────────────

abbrev pub is_upper : ℕ → Bool
is_upper c = leb 65 c && leb c 70

unfoldable pub no_upper : List ℕ → Bool
no_upper s = every (λ c. not (is_upper c)) s
