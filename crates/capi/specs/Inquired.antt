-- What an inquiry for C leaves: the words that it writes, and the number that it returns. Assumes nothing.
use Rattle.std.specs.Prelude.{ℕ, ◌+◌, ◌≤◌, List, [], ◌∷◌, ◌≡◌, length, get_or, take, drop, replicate, Option, None, Some}
use Rattle.model.specs.declared.Span.{Span}
use Rattle.asking.specs.declared.Asked.{Asked}
use Rattle.contents.specs.declared.Unread.TheVariants.{Size, Broken}
use Rattle.asking.specs.declared.Unasked.{Unasked}
use Rattle.asking.specs.declared.Unasked.TheVariants.{Unread, NotQuery}
use Rattle.model.specs.declared.FoundPair.{FoundPair}
use Rattle.model.specs.declared.Moves.{Moves}
use Rattle.model.specs.Octets.{part, put}
use Rattle.model.specs.Calls.{DONE}
use Rattle.model.specs.Inquiries.{Spelt, Asks}

-- A pair's number is told: 0 where the inquiry is refused.
pub record FoundTold (a : FoundPair) (words : List ℕ) (r : ℕ) : Type 0 where
  pub written : words ≡ a.pair ∷ []
  pub returned : r ≡ a.number

-- Octets fill the first of a buffer that is b at entry and b' at exit, and how many they are is told; a refusal leaves the buffer as it was, and tells 0.
pub record SpeltTold (a : Spelt) (b b' words : List ℕ) (r : ℕ) : Type 0 where
  pub left : b' ≡ put a.octets b
  pub written : words ≡ length a.octets ∷ []
  pub returned : r ≡ a.number

unfoldable pub moves_words : Moves → List ℕ
moves_words m = m.made ∷ m.adopted ∷ m.ended ∷ m.dropped ∷ []

-- The data of a KEY record in three words: 1, place and size, or three zeros where there is none.
abbrev pub second_words : Option Span → List ℕ
second_words None = 0 ∷ 0 ∷ 0 ∷ []
second_words (Some p) = 1 ∷ p.from ∷ p.size ∷ []

-- What is asked in ten words, of which the last three are of the KEY record.
abbrev pub asked_words : Asked → List ℕ → List ℕ
asked_words a s =
    0
    ∷ a.mode
    ∷ a.algorithm
    ∷ a.inception
    ∷ a.expiration
    ∷ a.key.from
    ∷ a.key.size
    ∷ get_or s 0 0
    ∷ get_or s 1 0
    ∷ get_or s 2 0
    ∷ []

-- A refusal in two words: its number, and the place where reading failed.
abbrev pub unasked_words : Unasked → List ℕ
unasked_words (Unread Size) = 4 ∷ 0 ∷ []
unasked_words (Unread (Broken place)) = 6 ∷ place ∷ []
unasked_words NotQuery = 7 ∷ 0 ∷ []

-- There is a KEY record: its data is the part of the message m of `size` octets from `place` on. Where there is none, all three are 0.
abbrev pub KeyTold : List ℕ → ℕ → ℕ → ℕ → Option (List ℕ) → Type 0
KeyTold m there place size None = (there ≡ 0) × (place ≡ 0) × (size ≡ 0)
KeyTold m there place size (Some content) = (there ≡ 1) × (part m place size ≡ content) × (place + size ≤ length m)

-- What the message m asks for is told in ten words: the place where reading failed, mode, algorithm, inception, expiration; place and size of the key data in
-- the message; whether there is a KEY record, and place and size of its data.
pub record AsksTold (m : List ℕ) (a : Asks) (words : List ℕ) (r : ℕ) : Type 0 where
  pub ten : length words ≡ 10
  pub numbers : take 5 words ≡ a.place ∷ a.mode ∷ a.algorithm ∷ a.inception ∷ a.expiration ∷ []
  pub key : part m (get_or words 5 0) (get_or words 6 0) ≡ a.key
  pub within : get_or words 5 0 + get_or words 6 0 ≤ length m
  pub second : KeyTold m (get_or words 7 0) (get_or words 8 0) (get_or words 9 0) a.second
  pub returned : r ≡ a.number
  -- a refusal tells the place alone
  pub refused : (r ≡ DONE → ⊥) → drop 1 words ≡ replicate 9 0
