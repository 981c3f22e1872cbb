-- Runs, computed by antt: 01, "The desk's business". Whose the calls of a run are, what is struck out, the final clock, and the names that a run makes. Assumes
-- nothing.
use Prim.Native.Nat.{ℕ}
use mathlib.Core.Path.{◌≡◌, refl}
use mathlib.Core.List.{List, [], ◌∷◌, map}
use Rattle.model.specs.declared.Keys.TheVariants.{Adopted}
use Rattle.model.specs.Tables.{Table}
use Rattle.model.specs.Calls.{Outcome, Call, issue, revoke, look, empty_table}
use Rattle.model.specs.Runs.{final, log, frame_of, own, own_log, free, free_log, record_of, times_passed, latest, enrol, call, names_made}
use Rattle.model.proofs.Requests.{suffix, other_suffix, ordinary, renewal_by}
use Rattle.model.proofs.Running.{after}
use Rattle.model.proofs.Day.{at, key, first}
use Rattle.model.proofs.Edges.{row, table_of, two}

-- Two pairs with one key each; a table whose clock breaks a rule.
abbrev start : Table
start = two 1000 (Adopted first) (Adopted first)

abbrev broken : Table
broken = two 0x1_0000_0000_0000 (Adopted first) (Adopted first)

-- Of pair 1, of pair 2, of no pair; too early; too late; a look of pair 1; of pair 1 again.
abbrev calls : List Call
calls =
    issue 1100 1 256
    ∷ revoke 1200 2
    ∷ issue 1250 9 256
    ∷ revoke 1150 1
    ∷ issue 0xffff_8000_0000 2 256
    ∷ look (ordinary 3 1000)
    ∷ revoke 1300 1
    ∷ []

abbrev numbers : List (Call × Outcome) → List (ℕ × ℕ)
numbers l = map (λ x. (x.1.answer.number, x.1.answer.serial)) l

-- "A run in demand 3 gives its first call the table it starts from, and each later call the table that the call before left." The numbers and serials; the
-- table.
pub run :
    (numbers (log start calls) ≡ (0, 3) ∷ (0, 1) ∷ (9, 0) ∷ (3, 0) ∷ (2, 0) ∷ (0, 3) ∷ (0, 3) ∷ [])
    × (final start calls
    ≡ table_of 1300 (row suffix 600 400 4 (Adopted (key 3 1100 1300 1700)) ∷ row other_suffix 600 400 3 (Adopted (key 1 1000 1200 1600)) ∷ []))
unfolding after
run = (refl, refl)

-- "A pair's own calls alone are the list with every other call struck out", and so of the lines of a log; calls of no pair. "Where it breaks a rule, all calls
-- belong to none."
pub struck_out :
    (own (frame_of start) 0 calls ≡ issue 1100 1 256 ∷ revoke 1150 1 ∷ look (ordinary 3 1000) ∷ revoke 1300 1 ∷ [])
    × (own (frame_of start) 1 calls ≡ revoke 1200 2 ∷ issue 0xffff_8000_0000 2 256 ∷ [])
    × (free (frame_of start) calls ≡ issue 1250 9 256 ∷ [])
    × (numbers (own_log (frame_of start) 1 (log start calls)) ≡ (0, 1) ∷ (2, 0) ∷ [])
    × (numbers (free_log (frame_of start) (log start calls)) ≡ (9, 0) ∷ [])
    × (own (frame_of broken) 0 calls ≡ [])
    × (free (frame_of broken) calls ≡ calls)
unfolding after
struck_out = (refl, refl, refl, refl, refl, refl, refl)

-- "A record is suffix, L, P, next serial and keys with their times."
pub records : record_of (final start calls) 1 ≡ row other_suffix 600 400 3 (Adopted (key 1 1000 1200 1600))
unfolding after
records = refl

-- "The final clock is the latest of the starting clock and the times of calls that passed 1 to 3."
pub clocks :
    (times_passed start calls ≡ 1100 ∷ 1200 ∷ 1250 ∷ 1300 ∷ [])
    × (times_passed broken calls ≡ [])
    × (latest 1000 (1100 ∷ 1050 ∷ []) ≡ 1100)
    × (latest 1000 (900 ∷ []) ≡ 1000)
unfolding after
clocks = (refl, refl, refl, refl)

-- "Never issued before": the names that a run makes, by enrolment, a renewal, one that is refused, and issue; each pair has its own serials.
pub names_made_lem :
    names_made (empty_table 1000)
    (enrol 1000 suffix 600 400 256
    ∷ enrol 1100 other_suffix 600 400 512
    ∷ at 1200 (renewal_by 1 1200)
    ∷ at 1201 (ordinary 1 1201)
    ∷ enrol 1202 suffix 600 400 256
    ∷ call (issue 1203 2 256)
    ∷ call (issue 1204 9 256)
    ∷ [])
    ≡ (1 ∷ 49 ∷ suffix) ∷ (1 ∷ 49 ∷ other_suffix) ∷ (1 ∷ 50 ∷ suffix) ∷ (1 ∷ 50 ∷ other_suffix) ∷ []
unfolding after
names_made_lem = refl
