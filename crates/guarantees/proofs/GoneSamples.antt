-- A key that goes in each way, and what a load and a second new table bring back. Assumes nothing.
use mathlib.Core.Path.{◌≡◌, refl}
use mathlib.Core.Bool.{Bool, true, false, false≢true}
use mathlib.Core.Logic.{inl, inr}
use mathlib.Core.List.{List, [], ◌∷◌}
use Prim.Native.Nat.{ℕ}
use native.Mathlib.Omega.{arith}
use Rattle.model.specs.declared.Algorithm.TheVariants.{Sha256}
use Rattle.model.specs.declared.Scheme.TheVariants.{ServerAssignment}
use Rattle.model.specs.Octets.{Reading, reads, stops}
use Rattle.model.specs.Names.{key_name}
use Rattle.model.specs.Messages.{Message, read_message}
use Rattle.model.specs.Calls.{issue}
use Rattle.model.specs.Runs.{enrol, close, call}
use Rattle.model.specs.Batches.{inside, batch_ok, given_by, item_call, made_calls, batch_on, in_turn, refused_whole}
use Rattle.model.proofs.Running.{after, loading}
use Rattle.model.proofs.Requests.{suffix, unkeyed, renewal_by, adoption_by}
use Rattle.model.proofs.Day.{opening, at, first}
use Rattle.model.proofs.GoneKeys.{by_first, by_second, in_capitals, deletion, old, second, renewing as renewed_once}
use Rattle.guarantees.specs.Freshness.{after as run, Ask}
use Rattle.guarantees.specs.Gone.{acted, operations_by, SignedWith, Gone, adopted_over, deleted, dropped, replaced, closed, judged, EvenLoaded, EvenNew}
use Rattle.guarantees.specs.Promises.{passing, deleting, EachWay}
use Rattle.guarantees.proofs.Gone.{signed_with}

-- ── Messages that read ──────────────────────────────────────────────────────────────────────────────────────────────

abbrev is_read : Reading Message → Bool
is_read (reads m end) = true
is_read (stops place) = false

abbrev Read : Reading Message → Type 0
Read r = (m : Message) × (end : ℕ) × (r ≡ reads m end)

unfoldable pub read_as : (r : Reading Message) → is_read r ≡ true → Read r
read_as (reads m end) e = (m, end, refl)
read_as (stops place) e = absurd (false≢true e)

-- ── Each way ────────────────────────────────────────────────────────────────────────────────────────────────────────

-- A message at a time, as `at` of the day has it.
abbrev asking : ℕ → List ℕ → Ask
asking time octets = record { given = unkeyed time true (1 ∷ 2 ∷ 3 ∷ 4 ∷ []); room = 512; octets = octets }

over : Gone (run 1000 renewed_once) 0 old (at 1202 (adoption_by 1 2 1202))
unfolding opening after read_as
over =
    let w = read_as (read_message (adoption_by 1 2 1202)) refl in
    adopted_over (asking 1202 (adoption_by 1 2 1202)) w.0 second (record { end = w.1; passes = refl; readings = w.2; owner = refl; decided = refl; finished = refl }) refl

deletes : Gone (run 1000 opening) 0 first (at 1150 (deletion 1150))
unfolding opening after read_as
deletes =
    let w = read_as (read_message (deletion 1150)) refl in
    deleted (asking 1150 (deletion 1150)) w.0 (record { end = w.1; passes = refl; readings = w.2; owner = refl; decided = refl; finished = refl }) (inl refl)

deletes_there : Gone (run 1000 passing) 0 first deleting
unfolding opening after read_as
deletes_there =
    let w = read_as (read_message (deletion 1150)) refl in
    deleted (record { given = unkeyed 1150 true []; room = 512; octets = deletion 1150 }) w.0 (record { end = w.1; passes = refl; readings = w.2; owner = refl; decided = refl; finished = refl }) (inl refl)

drops : Gone (run 1000 renewed_once) 0 second (at 1201 (renewal_by 1 1201))
unfolding opening after read_as
drops =
    let w = read_as (read_message (renewal_by 1 1201)) refl in
    dropped (asking 1201 (renewal_by 1 1201)) w.0 ServerAssignment Sha256 (record { end = w.1; passes = refl; readings = w.2; owner = refl; decided = refl; finished = refl }) refl

replaces : Gone (run 1000 opening) 0 first (call (issue 1150 1 256)) × Gone (run 1000 renewed_once) 0 second (call (issue 1201 1 256))
unfolding opening after
replaces = (replaced 1150 1 256 refl refl (inl refl), replaced 1201 1 256 refl refl (inr refl))

closes : Gone (run 1000 opening) 0 first (close 1150 1)
unfolding opening after
closes = closed 1150 1 refl refl (inl refl)

first_signs : SignedWith by_first (key_name 1 suffix) Sha256
unfolding after
first_signs = signed_with by_first (key_name 1 suffix) Sha256 refl

judges : Gone (run 1000 opening) 0 first (at 1600 by_first)
unfolding opening after
judges = judged (asking 1600 by_first) first_signs (inl refl) refl (omega arith)

pub each_way : EachWay
unfolding opening after acted operations_by inside batch_ok given_by item_call made_calls batch_on in_turn refused_whole
each_way =
    record {
      adopted_over_lem = over;
      deleted = deletes;
      dropped = drops;
      replaced = replaces;
      closed = closes;
      judged = judges;
      by_first_lem = (first_signs, signed_with in_capitals (key_name 1 suffix) Sha256 refl);
      by_second_lem = signed_with by_second (key_name 2 suffix) Sha256 refl;
      in_a_batch = refl;
      by_an_item = deletes_there;
    }

-- ── What the paper leaves out ───────────────────────────────────────────────────────────────────────────────────────

-- Key 1 is deleted at 1150; the listing of before is loaded; its query at 1151 is passed up.
pub load_left_out : ¬ EvenLoaded
unfolding opening loading
load_left_out claim =
    (claim 1000 opening (at 1150 (deletion 1150)) 0 first (run 1000 opening) (asking 1151 by_first) deletes refl first_signs).not_passed (refl, refl)

-- Key 1 is deleted at 1150; a new table is made at 1151, and the suffix enrolled again: the query at 1152 is passed up.
pub new_left_out : ¬ EvenNew
unfolding opening after
new_left_out claim =
    (claim 1000 opening (at 1150 (deletion 1150)) 0 first 1151 (enrol 1151 suffix 600 400 256 ∷ []) (asking 1152 by_first) deletes first_signs).not_passed (refl, refl)
