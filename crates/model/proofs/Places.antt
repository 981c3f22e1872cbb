-- 02, CR 6: "the octet where reading first failed", computed by antt, one example for each kind of place. Questions begin at octet 12. Assumes nothing.
use Prim.Native.Nat.{ℕ}
use mathlib.Core.Path.{◌≡◌, refl}
use mathlib.Core.Bool.{true}
use mathlib.Core.List.{List, [], ◌∷◌, ◌++◌}
use lib.ListN.{replicate}
use Rattle.model.specs.Calls.{empty_table, look, message}
use Rattle.model.specs.Runs.{Operation, call, operated}
use Rattle.model.proofs.Running.{after}
use Rattle.model.proofs.Requests.{unkeyed}

-- A query with so many questions and answers, and these octets behind its header.
abbrev asked : ℕ → ℕ → List ℕ → List ℕ
asked questions answers octets = 18 ∷ 52 ∷ 0 ∷ 0 ∷ 0 ∷ questions ∷ 0 ∷ answers ∷ 0 ∷ 0 ∷ 0 ∷ 0 ∷ octets

-- The number and the place that an operation on an empty table returns; of a look at such a query with one question.
abbrev told : Operation → ℕ × ℕ
told o = ((operated (empty_table 1000) o).outcome.answer.number, (operated (empty_table 1000) o).outcome.answer.place)

abbrev one : List ℕ → ℕ × ℕ
one octets = told (call (look (asked 1 0 octets)))

-- A label of n octets; 192 octets of labels; type and class of a question.
abbrev label : ℕ → List ℕ
label n = n ∷ replicate n 97

abbrev three : List ℕ
three = label 63 ++ (label 63 ++ label 63)

abbrev soa : List ℕ
soa = 0 ∷ 6 ∷ 0 ∷ 1 ∷ []

-- "The first octet that breaks a rule": 64 and 191, at the start of a name and behind a label; and behind a label and a pointer, before the record's fixed fields,
-- which are missing.
pub refused_octets :
    (one (64 ∷ soa) ≡ (6, 12))
    × (one (191 ∷ soa) ≡ (6, 12))
    × (one (1 ∷ 97 ∷ 64 ∷ soa) ≡ (6, 14))
    × (told (call (look (asked 1 1 (2 ∷ 64 ∷ 64 ∷ 0 ∷ (soa ++ (1 ∷ 98 ∷ 192 ∷ 13 ∷ [])))))) ≡ (6, 13))
unfolding after
refused_octets = (refl, refl, refl, refl)

-- "For a pointer with a forbidden target it is the pointer's first octet": to itself, forward, to octet 11, and, behind a label, to the start of its own run of
-- labels and to octet 11.
pub forbidden_targets :
    (one (192 ∷ 12 ∷ soa) ≡ (6, 12))
    × (one (192 ∷ 14 ∷ soa) ≡ (6, 12))
    × (one (192 ∷ 11 ∷ soa) ≡ (6, 12))
    × (one (1 ∷ 97 ∷ 192 ∷ 12 ∷ soa) ≡ (6, 14))
    × (one (1 ∷ 97 ∷ 192 ∷ 11 ∷ soa) ≡ (6, 14))
unfolding after
forbidden_targets = (refl, refl, refl, refl, refl)

-- "The message length where an octet is missing": of a name, a label, a pointer; of a question's type and class; of a record's fixed fields and of its data;
-- and where a count promises more.
pub missing_octets :
    (one [] ≡ (6, 12))
    × (one (5 ∷ 97 ∷ []) ≡ (6, 14))
    × (one (192 ∷ []) ≡ (6, 13))
    × (one (0 ∷ 0 ∷ 6 ∷ 0 ∷ []) ≡ (6, 16))
    × (told (call (look (asked 0 1 (0 ∷ 0 ∷ 1 ∷ 0 ∷ 1 ∷ 0 ∷ 0 ∷ 0 ∷ 0 ∷ 0 ∷ [])))) ≡ (6, 22))
    × (told (call (look (asked 0 1 (0 ∷ 0 ∷ 1 ∷ 0 ∷ 1 ∷ 0 ∷ 0 ∷ 0 ∷ 0 ∷ 0 ∷ 5 ∷ 1 ∷ 2 ∷ 3 ∷ 4 ∷ [])))) ≡ (6, 27))
    × (told (call (look (asked 2 0 (0 ∷ soa)))) ≡ (6, 17))
unfolding after
missing_octets = (refl, refl, refl, refl, refl, refl, refl)

-- "For a name too long, the length octet of the label that takes it, its final 0 counted, past 255": a name of 256 octets; the same cut off there; and
-- behind a pointer, in the second question, where the place is lower than the pointer's own. A name of 255 octets is read.
pub too_long :
    (one (three ++ (label 62 ++ (0 ∷ soa))) ≡ (6, 204))
    × (one (three ++ (62 ∷ 97 ∷ [])) ≡ (6, 204))
    × (told (call (look (asked 2 0 (three ++ (label 60 ++ ((0 ∷ soa) ++ (2 ∷ 97 ∷ 97 ∷ 192 ∷ 12 ∷ soa))))))) ≡ (6, 204))
    × (one (three ++ (label 61 ++ (0 ∷ soa))) ≡ (0, 0))
unfolding after
too_long = (refl, refl, refl, refl)

-- "Or the first left-over octet": behind a question, and behind a record.
pub left_over :
    (one (0 ∷ soa ++ (7 ∷ 8 ∷ [])) ≡ (6, 17))
    × (told (call (look (asked 0 1 (0 ∷ 0 ∷ 1 ∷ 0 ∷ 1 ∷ 0 ∷ 0 ∷ 0 ∷ 0 ∷ 0 ∷ 1 ∷ 9 ∷ 7 ∷ 8 ∷ [])))) ≡ (6, 24))
unfolding after
left_over = (refl, refl)

-- "Message and look return that place beside FORMAT", and beside no other number: SIZE, NOTQUERY, OFFER and DONE have 0.
pub beside_format :
    (told (call (message (unkeyed 1000 true []) 512 (asked 1 0 (192 ∷ 12 ∷ soa)))) ≡ (6, 12))
    × (told (call (message (unkeyed 1000 true []) 512 (asked 1 0 (1 ∷ 97 ∷ 64 ∷ soa)))) ≡ (6, 14))
    × (told (call (look (18 ∷ 52 ∷ []))) ≡ (4, 0))
    × (told (call (look (18 ∷ 52 ∷ 128 ∷ 0 ∷ 0 ∷ 0 ∷ 0 ∷ 0 ∷ 0 ∷ 0 ∷ 0 ∷ 0 ∷ []))) ≡ (7, 0))
    × (told (call (message (unkeyed 1000 true (replicate 1025 0)) 512 (asked 1 0 (192 ∷ 12 ∷ soa)))) ≡ (5, 0))
    × (one (0 ∷ soa) ≡ (0, 0))
unfolding after
beside_format = (refl, refl, refl, refl, refl, refl)
