-- Closing, computed by antt (02, CR 9): which row goes and which floor stays, each refusal, a suffix that comes back, a new table, and the floor's rule.
-- Assumes nothing.
use Prim.Native.Nat.{ℕ}
use mathlib.Core.Path.{◌≡◌, refl}
use mathlib.Core.Bool.{true, false}
use mathlib.Core.List.{List, [], ◌∷◌}
use Rattle.model.specs.declared.Keys.TheVariants.{Empty, Adopted}
use Rattle.model.specs.Names.{key_name}
use Rattle.model.specs.Tables.{Row, Table, table_rules}
use Rattle.model.specs.Calls.{Result, message, empty_table, new_table}
use Rattle.model.specs.Runs.{enrol, close, call, operated, operated_all, names_made}
use Rattle.model.proofs.Requests.{unkeyed, suffix, other_suffix, ordinary}
use Rattle.model.proofs.Running.{after}
use Rattle.model.proofs.Day.{key}
use Rattle.model.proofs.Edges.{row, number, done, refused, enrolled, rows_of}

-- A table with this floor; what a call leaves of it.
abbrev floored : ℕ → ℕ → List Row → Table
floored clock floor rows = record { clock = clock; floor = floor; rows = rows }

abbrev leaving : Table → ℕ → Result
leaving t n = record { table = t; outcome = refused n }

-- Three pairs, whose next serials are 5, 9 and 7; the last has a key.
abbrev a : Row
a = row suffix 600 400 5 Empty

abbrev b : Row
b = row other_suffix 600 400 9 Empty

abbrev c : Row
c = row (1 ∷ 99 ∷ 0 ∷ []) 90 60 7 (Adopted (key 6 900 960 990))

abbrev three : ℕ → Table
three floor = floored 1000 floor (a ∷ b ∷ c ∷ [])

-- "The row goes, later rows keep their order and each moves down one number": the first, the middle one and the last. The floor is "the largest next serial of any
-- closed pair": it rises to the closed pair's, and stays where it is higher. Closing answers pair 0 and serial 0.
pub closings :
    (operated (three 1) (close 1100 1) ≡ record { table = floored 1100 5 (b ∷ c ∷ []); outcome = done 0 0 })
    × (operated (three 1) (close 1100 2) ≡ record { table = floored 1100 9 (a ∷ c ∷ []); outcome = done 0 0 })
    × (operated (three 8) (close 1100 3) ≡ record { table = floored 1100 8 (a ∷ b ∷ []); outcome = done 0 0 })
    × (operated_all (three 1) (close 1100 1 ∷ close 1100 2 ∷ close 1100 1 ∷ []) ≡ floored 1100 9 [])
unfolding after
closings = (refl, refl, refl, refl)

-- "Refusals: 1 to 3, then NOPAIR for closing": each with all that follow it. A refusal leaves all but the clock.
pub close_order :
    (operated (floored 0x1_0000_0000_0000 1 []) (close 0xffff_8000_0000 0) ≡ leaving (floored 0x1_0000_0000_0000 1 []) 1)
    × (operated (floored 0xffff_ffff_ffff 1 []) (close 0xffff_8000_0000 0) ≡ leaving (floored 0xffff_ffff_ffff 1 []) 2)
    × (operated (three 1) (close 999 0) ≡ leaving (three 1) 3)
    × (operated (three 1) (close 1100 0) ≡ leaving (floored 1100 1 (a ∷ b ∷ c ∷ [])) 9)
    × (operated (three 1) (close 1100 4) ≡ leaving (floored 1100 1 (a ∷ b ∷ c ∷ [])) 9)
unfolding after
close_order = (refl, refl, refl, refl, refl)

-- "A pair enrolled later starts at the floor, so a returning suffix repeats no name": the day's pair is closed and enrolled again, and its key is 2.a.example.
pub returning :
    (operated_all enrolled (close 1100 1 ∷ enrol 1200 suffix 600 400 256 ∷ []) ≡ floored 1200 2 (row suffix 600 400 3 (Adopted (key 2 1200 1600 1800)) ∷ []))
    × ((operated (floored 1100 2 []) (enrol 1200 suffix 600 400 256)).outcome ≡ done 1 2)
    × (names_made (empty_table 1000) (enrol 1000 suffix 600 400 256 ∷ close 1100 1 ∷ enrol 1200 suffix 600 400 256 ∷ [])
    ≡ key_name 1 suffix ∷ key_name 2 suffix ∷ [])
unfolding after
returning = (refl, refl, refl)

-- A message that 1.a.example. signed is passed up before its pair is closed, and BADKEY after it, also where the suffix is back.
abbrev says : Table → ℕ
says t = (operated t (call (message (unkeyed 1200 true []) 65535 (ordinary 1 1200)))).outcome.answer.error

pub gone :
    (says enrolled ≡ 0)
    × (says (operated_all enrolled (close 1100 1 ∷ [])) ≡ 17)
    × (says (operated_all enrolled (close 1100 1 ∷ enrol 1100 suffix 600 400 256 ∷ [])) ≡ 17)
unfolding after
gone = (refl, refl, refl)

-- "Enrolment is SPENT when the floor is 2^32, after FULL"; one below, it makes the last serial there is.
pub spent :
    (number (floored 1000 0x1_0000_0000 (rows_of 64)) (enrol 1000 suffix 600 400 256) ≡ 15)
    × (number (floored 1000 0x1_0000_0000 (rows_of 63)) (enrol 1000 suffix 600 400 256) ≡ 11)
    × ((operated (floored 1000 0xffff_ffff []) (enrol 1000 suffix 600 400 256)).outcome ≡ done 1 0xffff_ffff)
unfolding after
spent = (refl, refl, refl)

-- "1 in a new table", whatever it was.
pub new : (new_table (three 9) 1200).table ≡ empty_table 1200
unfolding after
new = refl

-- "The floor is 1 to 2^32 by a new table rule."
pub floors :
    (table_rules (floored 0 0 []) ≡ false)
    × (table_rules (floored 0 1 []) ≡ true)
    × (table_rules (floored 0 0x1_0000_0000 []) ≡ true)
    × (table_rules (floored 0 0x1_0000_0001 []) ≡ false)
unfolding after
floors = (refl, refl, refl, refl)
