-- What follows the first label of a name, as the code takes it. Assumes nothing.
use Prim.Native.Nat.{ℕ, ◌+◌, ◌-◌, ◌≤◌, min}
use mathlib.Core.List.{List, [], ◌∷◌}
use mathlib.Core.Path.{◌≡◌, refl, ◌∙◌}
use native.Mathlib.Decide.{dec_le}
use native.Mathlib.Omega.{arith}
use lib.ListN.{length, take, drop, get_or, length-drop, drop_of_length-le}
use lib.Seq.{take_all}
use Rattle.std.specs.List.{slice_get}
use Rattle.std.specs.Prelude.{None, Some}
use Rattle.model.specs.Names.{after_label}

first_is : (name : List ℕ) {x : ℕ} → Some x ≡ slice_get name 0 → get_or name 0 0 ≡ x
first_is [] e = cc
first_is (y ∷ name) e = cc

pub after_first : (name : List ℕ) {x m : ℕ} → Some x ≡ slice_get name 0 → m ≡ min (length name) (x + 1) → take (length name - m) (drop m name) ≡ after_label name
unfolding after_label
after_first name {x} {m} e is =
    rw (first_is name e) (take_all (length name - m) (drop m name) (omega (arith, length-drop m name)) ∙ go (dec_le (x + 1) (length name)))
  where
    go : Dec (x + 1 ≤ length name) → drop m name ≡ drop (x + 1) name
    go (yes h) = let z : m ≡ x + 1 = omega arith in rw z refl
    go (no h) = rw (drop_of_length-le name {i = m} (omega arith), drop_of_length-le name {i = x + 1} (omega arith)) refl

pub after_none : (name : List ℕ) → None ≡ slice_get name 0 → name ≡ after_label name
unfolding after_label
after_none [] e = refl
after_none (y ∷ name) e = cc
