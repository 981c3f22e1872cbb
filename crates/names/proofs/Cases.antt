-- `lower_of` is ASCII's lower case. Assumes nothing.
use Prim.Native.Nat.{ℕ, ◌+◌}
use mathlib.Core.Path.{◌≡◌, refl}
use mathlib.Core.Bool.{Bool, true, false, cond, ◌&&◌}
use native.Mathlib.Omega.{arith}
use lib.Dec.{leb}
use Rattle.std.specs.Char.{to_ascii_lowercase}
use Rattle.std.proofs.lemmas.Str.Ascii.{lowercase_is}
use Rattle.model.specs.Names.{lower_of}

-- by which of the bounds holds
low : (x : ℕ) (t u : Bool) → leb 65 x ≡ t → leb x 90 ≡ u → to_ascii_lowercase x ≡ cond (t && u) (x + 32) x
low x true true e f = grind (arith, lowercase_is x)
low x true false e f = grind (arith, lowercase_is x)
low x false u e f = grind (arith, lowercase_is x)

pub lowered : (x : ℕ) → to_ascii_lowercase x ≡ lower_of x
unfolding lower_of
lowered x = low x _ _ refl refl
