-- An answer as words, for C. Assumes nothing.
use Rattle.std.specs.Prelude.{ℕ, suc, ◌-◌, ◌^◌, List, [], ◌∷◌, ℤ, pos, negsuc}
use Rattle.model.specs.declared.Answer.{Answer}

-- A signed number in 64 bits, in two's complement. (`negsuc n` is - n - 1.)
unfoldable pub twos_complement : ℤ → ℕ
twos_complement (pos n) = n
twos_complement (negsuc n) = 2 ^ 64 - suc n

-- An answer in seven words.
unfoldable pub answer_words : Answer → List ℕ
answer_words a = a.number ∷ a.length ∷ a.error ∷ twos_complement a.skew ∷ a.pair ∷ a.serial ∷ a.place ∷ []
