-- A later message of a stream: each way that its digest ends, and what is written. Assumes nothing.
use Prim.Native.Nat.{ℕ, ◌-◌, ◌≤◌, ◌<◌, ◌^◌}
use mathlib.Core.Path.{◌≡◌, refl}
use mathlib.Core.Bool.{cond}
use mathlib.Core.List.{List, ◌++◌}
use borrow.Author.Tests.{lt-ltb, le-ltb, ne_eqb}
use lib.Dec.{ltb, eqb}
use lib.ListN.{length, take, drop}
use Rattle.std.specs.Prelude.{Result, Err}
use Rattle.model.specs.Octets.{be16}
use Rattle.model.specs.Checks.{check}
use Rattle.model.specs.Calls.{TIME}
use Rattle.model.specs.Signing.{Stamp, with_id, unassembled}
use Rattle.model.specs.Received.{digested_later}
use Rattle.digests.specs.declared.Refusal.{Refusal}
use Rattle.digests.specs.declared.Refusal.TheVariants.{Time}
use Rattle.digests.specs.Left.{number_of, Left}
use Rattle.digests.proofs.Laws.{to_end}
use Rattle.digests.proofs.Ends.{refused, refusal_numbered}
use Rattle.signing.specs.Assembling.{Bare, later_in}

-- the message under its original ID
pub renumbered : (id : ℕ) (m : List ℕ) → be16 id ++ take (length m - 2) (drop 2 m) ≡ with_id id m
unfolding with_id
renumbered id m = rw to_end refl

-- by SIZE and FORMAT, whose number is n
module _ (prior before m : List ℕ) (t : Stamp) (b : List ℕ) where
  behind : {n : ℕ} → Bare m n → digested_later prior before m t (length b)
      ≡ cond (eqb n 0) (check unassembled TIME (ltb t.signed (2 ^ 48)) (later_in prior before m t (length b))) (unassembled n)
  unfolding digested_later
  behind p = p.says _

  pub later_stops : (r : Refusal) → Bare m (number_of r) → Left (digested_later prior before m t (length b)) b b (Err r)
  later_stops r p = rw (behind p, ne_eqb (number_of r) 0 (refusal_numbered r)) (refused r b)

  pub later_late : Bare m 0 → 2 ^ 48 ≤ t.signed → Left (digested_later prior before m t (length b)) b b (Err Time)
  unfolding TIME
  later_late p h = rw (behind p, le-ltb t.signed (2 ^ 48) h) (refused Time b)

  pub later_goes : Bare m 0 → t.signed < 2 ^ 48 → (r : Result ℕ Refusal) (b' : List ℕ) → Left (later_in prior before m t (length b)) b b' r
      → Left (digested_later prior before m t (length b)) b b' r
  later_goes p h r b' l = rw (behind p, lt-ltb t.signed (2 ^ 48) h) l
