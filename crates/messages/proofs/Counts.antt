-- What the numbers of a pass stand for, as it goes on. Assumes nothing.
use Prim.Native.Nat.{ℕ, zero, suc, ◌≤◌, ◌<◌}
use mathlib.Core.Path.{◌≡◌, refl}
use mathlib.Core.Bool.{Bool}
use native.Mathlib.Omega.{arith}
use Rattle.messages.specs.declared.Kept.TheVariants.{Never, Once, More}
use Rattle.messages.specs.Scan.{kept_by, one_more, tallied_hit, tallied, signed_on}

pub one_more_two : (n : ℕ) → (n ≡ 0 → ⊥) → 2 ≡ one_more n
one_more_two zero a = absurd (a refl)
one_more_two (suc n) a = refl

module _ (s p : ℕ) where
  pub kept_none : (n : ℕ) → n ≡ 0 → Never ≡ kept_by n s p
  kept_none n e = rw e refl

  pub kept_one : (n : ℕ) → n ≡ 1 → Once s p ≡ kept_by n s p
  kept_one n e = rw e refl

  pub kept_more : (n : ℕ) → (n ≡ 0 → ⊥) → (n ≡ 1 → ⊥) → More ≡ kept_by n s p
  kept_more zero a b = absurd (a refl)
  kept_more (suc zero) a b = absurd (b refl)
  kept_more (suc (suc n)) a b = refl

  module _ (section place : ℕ) where
    pub hit_so : (n : ℕ) → kept_by (one_more n) section place ≡ tallied_hit (kept_by n s p) section place
    hit_so zero = refl
    hit_so (suc zero) = refl
    hit_so (suc (suc n)) = refl

    -- a record stands behind the TSIG
    pub behind : (n : ℕ) (hit : Bool) → 0 < n → More ≡ signed_on (kept_by n s p) hit section place
    behind zero hit h = absurd (omega arith)
    behind (suc zero) hit h = refl
    behind (suc (suc n)) hit h = refl

    pub first : (n : ℕ) (hit : Bool) → n ≤ 0 → tallied (kept_by n s p) hit section place ≡ signed_on (kept_by n s p) hit section place
    first zero hit h = refl
    first (suc n) hit h = absurd (omega arith)
