-- What a call that writes leaves, against the crate model's Signing. Assumes nothing.
use Rattle.std.specs.Prelude.{ℕ, ◌≡◌, List, length, Result, Ok, Err}
use Rattle.model.specs.Signing.{Assembled, assembled_into}
use Rattle.contents.specs.declared.Unread.{Unread}
use Rattle.contents.specs.declared.Unread.TheVariants.{Size as BadSize, Broken}
use Rattle.digests.specs.declared.Refusal.{Refusal}
use Rattle.digests.specs.declared.Refusal.TheVariants.{Time, Size, Format, Room, Name, MacSize}

-- The number of a refusal, and of what a call answers: 0 where it is done.
abbrev pub number_of : Refusal → ℕ
number_of Time = 2
number_of Size = 4
number_of Format = 6
number_of Room = 8
number_of Name = 12
number_of MacSize = 16

abbrev pub number_in : {A : Type 0} → Result A Refusal → ℕ
number_in (Ok x) = 0
number_in (Err r) = number_of r

-- How many octets an answer says are written; none where the call is refused.
abbrev pub length_in : Result ℕ Refusal → ℕ
length_in (Ok n) = n
length_in (Err r) = 0

-- The refusal of octets that are not read as a message.
abbrev pub refusal_of : Unread → Refusal
refusal_of BadSize = Size
refusal_of (Broken place) = Format

-- What is returned, and the lent buffer afterwards.
pub record Left (a : Assembled) (entry exit : List ℕ) (r : Result ℕ Refusal) : Type 0 where
  pub number : number_in r ≡ a.number
  pub length : length_in r ≡ length a.octets
  pub left : exit ≡ assembled_into a entry
