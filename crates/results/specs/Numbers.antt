-- The refusals' numbers. Assumes nothing.
use Rattle.std.specs.Prelude.{ℕ}
use Rattle.results.specs.declared.Refusal.{Refusal}
use Rattle.results.specs.declared.Refusal.TheVariants.{Table as NoTable, Time, Clock, Size, Offer, Format, NotQuery, Room, NoPair, NoKey, Spent, Name, Term, Twin, Full, KeyRec}

-- The number of a refusal in document 01's list.
abbrev pub number_of : Refusal → ℕ
number_of NoTable = 1
number_of Time = 2
number_of Clock = 3
number_of Size = 4
number_of Offer = 5
number_of Format = 6
number_of NotQuery = 7
number_of Room = 8
number_of NoPair = 9
number_of NoKey = 10
number_of Spent = 11
number_of Name = 12
number_of Term = 13
number_of Twin = 14
number_of Full = 15
number_of KeyRec = 19
