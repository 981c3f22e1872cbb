-- What was read of a listing and of its lines, as the crate model has it. Assumes nothing.
use Rattle.std.specs.Prelude.{ℕ, ◌-◌, ◌≤◌, ◌<◌, ◌≡◌, List, ◌∷◌, length, take, drop, Option, None, Some}
use Rattle.model.specs.declared.Pair.{Pair}
use Rattle.model.specs.Tables.{Row}
use Rattle.model.specs.Lines.{lines_of, read_pair}

-- The line that begins at `at` ends at r.
pub record LineEnds (s : List ℕ) (at r : ℕ) : Type 0 where
  pub within : r ≤ length s
  pub more : at < r
  pub line : lines_of (drop at s) ≡ take (r - at) (drop at s) ∷ lines_of (drop r s)

-- The suffix stands at the front of the lent buffer.
abbrev pub pair_shown : List ℕ → Option (ℕ × Pair) → Option Row
pair_shown out (Some p) = Some (record { suffix = take p.0 out; pair = p.1 })
pair_shown out None = None

pub record PairRead (l entry exit : List ℕ) (r : Option (ℕ × Pair)) : Type 0 where
  pub says : read_pair l ≡ pair_shown exit r
  pub size : length exit ≡ length entry
  pub bound : (p : ℕ × Pair) → r ≡ Some p → p.0 ≤ 128
