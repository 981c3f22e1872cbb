-- Laws of the verdict: the refusals in their order. Assumes nothing.
use Prim.Native.Nat.{ℕ, ◌≤◌, ◌<◌}
use mathlib.Core.Path.{◌≡◌, refl}
use mathlib.Core.Bool.{Bool, true, false}
use Rattle.std.specs.Prelude.{None, Some, Result, Err, Ok}
use mathlib.Core.List.{List, [], ◌∷◌}
use native.Mathlib.Omega.{arith}
use borrow.Author.Tests.{le-leb, lt-leb}
use lib.Dec.{leb}
use lib.ListN.{length}
use Rattle.model.specs.declared.Verdict.{Verdict}
use Rattle.model.specs.Octets.{stops}
use Rattle.model.specs.Messages.{read_message}
use Rattle.model.specs.Calls.{DONE, SIZE, FORMAT, DIFFERS, size_ok}
use Rattle.model.specs.Compare.{first_difference, verdict, by_reading, by_size, compared}
use Rattle.model.proofs.Tests.{both, and_false}
use Rattle.messages.specs.declared.Seen.{Seen}
use Rattle.records.specs.declared.Found.{Found}
use Rattle.messages.specs.Scan.{Scanned}
use Rattle.messages.specs.declared.Outline.{Outline}

-- ── Of allowed size ─────────────────────────────────────────────────────────────────────────────────────────────────

module _ (ours theirs : List ℕ) (v : Verdict) where
  module _ (o : Result Outline ℕ) (scan : Scanned theirs o) where
    pub scan_fails : (place : ℕ) → o ≡ Err place → v ≡ verdict 6 place → v ≡ by_reading ours theirs (read_message theirs)
    unfolding FORMAT
    scan_fails place e is = let s : read_message theirs ≡ stops place = rw e at scan in rw s is

    module _ (end : ℕ) (request : Bool) (seen : Seen) (last : Found) (e : o ≡ Ok (record { end = end; request = request; seen = seen; last = last })) where
      pub scan_same : first_difference ours theirs ≡ None → v ≡ verdict 0 0 → v ≡ by_reading ours theirs (read_message theirs)
      unfolding DONE
      scan_same f is = let w = rw e at scan in rw (w.says, f) is

      pub scan_differs : (place : ℕ) → first_difference ours theirs ≡ Some place → v ≡ verdict 21 place → v ≡ by_reading ours theirs (read_message theirs)
      unfolding DIFFERS
      scan_differs place f is = let w = rw e at scan in rw (w.says, f) is

-- ── Empty replies, and sizes ────────────────────────────────────────────────────────────────────────────────────────

pub neither : (ours theirs : List ℕ) (v : Verdict) → length ours ≡ 0 → length theirs ≡ 0 → v ≡ verdict 0 0 → v ≡ compared ours theirs
unfolding compared DONE
neither [] [] v a b is = is
neither [] (y ∷ theirs) v a b is = absurd (omega arith)
neither (x ∷ ours) theirs v a b is = absurd (omega arith)

pub theirs_alone : (ours theirs : List ℕ) (v : Verdict) → length ours ≡ 0 → (length theirs ≡ 0 → ⊥) → v ≡ verdict 21 0 → v ≡ compared ours theirs
unfolding compared DIFFERS
theirs_alone [] [] v a b is = absurd (b refl)
theirs_alone [] (y ∷ theirs) v a b is = is
theirs_alone (x ∷ ours) theirs v a b is = absurd (omega arith)

pub ours_alone : (ours theirs : List ℕ) (v : Verdict) → (length ours ≡ 0 → ⊥) → length theirs ≡ 0 → v ≡ verdict 21 0 → v ≡ compared ours theirs
unfolding compared DIFFERS
ours_alone [] theirs v a b is = absurd (a refl)
ours_alone (x ∷ ours) [] v a b is = is
ours_alone (x ∷ ours) (y ∷ theirs) v a b is = absurd (omega arith)

by_size_lem : (ours theirs : List ℕ) → (length ours ≡ 0 → ⊥) → (length theirs ≡ 0 → ⊥) → compared ours theirs ≡ by_size ours theirs
unfolding compared
by_size_lem [] theirs a b = absurd (a refl)
by_size_lem (x ∷ ours) [] a b = absurd (b refl)
by_size_lem (x ∷ ours) (y ∷ theirs) a b = refl

module _ (ours theirs : List ℕ) (v : Verdict) (a : length ours ≡ 0 → ⊥) (b : length theirs ≡ 0 → ⊥) where
  of_size : size_ok theirs ≡ false → v ≡ verdict 4 0 → v ≡ compared ours theirs
  unfolding by_size SIZE
  of_size s is = rw (by_size_lem ours theirs a b, s) is

  pub too_short : length theirs < 12 → v ≡ verdict 4 0 → v ≡ compared ours theirs
  unfolding size_ok
  too_short h is = of_size (rw (lt-leb 12 (length theirs) h) refl) is

  pub too_long : 65535 < length theirs → v ≡ verdict 4 0 → v ≡ compared ours theirs
  unfolding size_ok
  too_long h is = of_size (and_false (leb 12 (length theirs)) (lt-leb (length theirs) 65535 h)) is

  pub sized : 12 ≤ length theirs → length theirs ≤ 65535 → v ≡ by_reading ours theirs (read_message theirs) → v ≡ compared ours theirs
  unfolding by_size size_ok
  sized l h is =
      let s : size_ok theirs ≡ true = both (leb 12 (length theirs)) (leb (length theirs) 65535) (le-leb 12 (length theirs) l) (le-leb (length theirs) 65535 h) in
      rw (by_size_lem ours theirs a b, s) is
