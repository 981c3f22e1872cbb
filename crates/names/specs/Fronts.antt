-- The fronts of two names that are the same as they stand. Assumes nothing.
use Rattle.std.specs.Prelude.{ℕ, ◌+◌, Bool, ◌&&◌, List, eqb, get_or}

-- Whether the octets at a place are the same.
abbrev pub same_at : List ℕ → List ℕ → ℕ → Bool
same_at a b i = eqb (get_or a i 0) (get_or b i 0)

-- Whether the eight octets from i on are the same.
abbrev pub same_eight : List ℕ → List ℕ → ℕ → Bool
same_eight a b i =
    ((((((same_at a b i && same_at a b (i + 1)) && same_at a b (i + 2)) && same_at a b (i + 3)) && same_at a b (i + 4)) && same_at a b (i + 5)) && same_at a b (i + 6)) && same_at a b (i + 7)

-- Whether octets are these: an algorithm's name in lower case, with three digits.
abbrev pub is_spelt : List ℕ → ℕ → ℕ → ℕ → Bool
is_spelt n x y z =
    (((((((((((eqb (get_or n 0 0) 11 && eqb (get_or n 1 0) 104) && eqb (get_or n 2 0) 109) && eqb (get_or n 3 0) 97) && eqb (get_or n 4 0) 99) && eqb (get_or n 5 0) 45) && eqb (get_or n 6 0) 115) && eqb (get_or n 7 0) 104) && eqb (get_or n 8 0) 97) && eqb (get_or n 9 0) x) && eqb (get_or n 10 0) y) && eqb (get_or n 11 0) z) && eqb (get_or n 12 0) 0
