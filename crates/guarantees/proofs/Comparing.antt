-- The promises of judging another server's replies are kept. Assumes nothing.
use mathlib.Core.Path.{◌≡◌, refl}
use mathlib.Core.List.{List}
use Prim.Native.Nat.{ℕ}
use native.Mathlib.Omega.{arith}
use Rattle.model.specs.Judging.{Given}
use Rattle.model.specs.Calls.{DONE, TABLE, LINE}
use Rattle.model.specs.Loading.{Loaded, no_line, no_table, loaded, load}
use Rattle.model.specs.Compare.{verdict, ours_of, judged_on, compare_on}
use Rattle.guarantees.specs.Comparing.{Accepted, Demand12}
use Rattle.model.proofs.CompareLaws.{meaning_refl, meaning_sym, meaning_trans, accepted, only_accepted, own_accepted}
use Rattle.model.proofs.CompareMeaning.{first_differs, accepted_reads}
use Rattle.model.proofs.CompareBack.{accepted_exactly}

module _ (listing : List ℕ) (g : Given) (message theirs : List ℕ) where
  call_accepts : Accepted listing g message theirs → compare_on listing g message theirs ≡ verdict DONE 0
  unfolding compare_on
  call_accepts a = rw a.loads (accepted (ours_of a.table g message) theirs a.allowed)

  call_only : (compare_on listing g message theirs).number ≡ DONE → Accepted listing g message theirs
  unfolding compare_on DONE TABLE LINE
  call_only e = go (load listing) refl e
    where
      go : (l : Loaded) → load listing ≡ l → (judged_on l g message theirs).number ≡ DONE → Accepted listing g message theirs
      go (no_line n) i e = absurd (omega arith)
      go no_table i e = absurd (omega arith)
      go (loaded t) i e = record { table = t; loads = i; allowed = only_accepted (ours_of t g message) theirs e }

pub demand12 : Demand12
demand12 = record {
  accepts = accepted;
  accepts_only = only_accepted;
  call_accepts = call_accepts;
  call_only = call_only;
  meaning_self = meaning_refl;
  meaning_back = meaning_sym;
  meaning_on = meaning_trans;
  own = own_accepted;
  first = first_differs;
  reads_same = accepted_reads;
  same_contents = accepted_exactly;
}
