-- What was read of a word, as the crate model has it. Assumes nothing.
use Rattle.std.specs.Prelude.{ℕ, ◌≤◌, ◌≡◌, List, length, take, Option, None, Some}

-- What stands at the front of the buffer.
abbrev pub octets_shown : List ℕ → Option ℕ → Option (List ℕ)
octets_shown out (Some n) = Some (take n out)
octets_shown out None = None

abbrev pub CountFits : List ℕ → Option ℕ → Type 0
CountFits out (Some n) = n ≤ length out
CountFits out None = Unit {0}

-- The octets read are `says`, and stand at the front of the buffer at exit.
pub record OctetsRead (says : Option (List ℕ)) (entry exit : List ℕ) (r : Option ℕ) : Type 0 where
  pub are : says ≡ octets_shown exit r
  pub fits : CountFits exit r
  pub long : length exit ≡ length entry
