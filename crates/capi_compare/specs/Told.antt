-- What a comparison leaves for C: the number that it returns, and the place beside it. Assumes nothing.
use Rattle.std.specs.Prelude.{ℕ, Bool, List, [], ◌∷◌, ◌≡◌}
use Rattle.model.specs.declared.Verdict.{Verdict}
use Rattle.model.specs.Judging.{Given}

-- What a message call is handed.
abbrev pub handed : ℕ → Bool → List ℕ → Bool → List ℕ → Given
handed time good offer fits second = record { now = time; good = good; offer = offer; fits = fits; second = second }

-- The verdict v is told: its place is written, and its number is returned.
pub record Told (v : Verdict) (place : List ℕ) (r : ℕ) : Type 0 where
  pub written : place ≡ v.place ∷ []
  pub returned : r ≡ v.number
