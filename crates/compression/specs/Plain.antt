-- Where a name without pointers ends: its octets are a slice of the message. Assumes nothing.
use Rattle.std.specs.Prelude.{ℕ, ◌-◌, ◌≤◌, ◌<◌, ◌≡◌, List, length, take, drop, Option, None, Some}
use Rattle.model.specs.Octets.{reads}
use Rattle.model.specs.Names.{read_name}

-- The name at `at` of the message m can be read, and is what lies from there up to `end`.
pub record PlainTo (m : List ℕ) (at end : ℕ) : Type 0 where
  pub says : read_name m at ≡ reads (take (end - at) (drop at m)) end
  pub after : at < end
  pub within : end ≤ length m

-- The answer r is none, or the name at `at` of the message m is what lies from there up to the place in it.
abbrev pub PlainEnd : List ℕ → ℕ → Option ℕ → Type 0
PlainEnd m at None = Unit {0}
PlainEnd m at (Some end) = PlainTo m at end
