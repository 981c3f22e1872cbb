-- A TSIG kept once is the last record passed over. Assumes nothing.
use Prim.Native.Nat.{ℕ}
use mathlib.Core.Path.{◌≡◌, sym, ap, subst}
use mathlib.Core.Bool.{Bool, true, false}
use mathlib.Core.List.{List}
use lib.Dec.{eqb}
use Rattle.std.specs.Prelude.{Ok, Result}
use Rattle.records.specs.Record.{RecordSkipped}
use Rattle.messages.specs.declared.Kept.{Kept}
use Rattle.messages.specs.declared.Kept.TheVariants.{Never, Once, More}
use Rattle.messages.specs.declared.Seen.{Seen}
use Rattle.messages.specs.declared.Notes.{Notes}
use Rattle.messages.specs.Scan.{kept_of, seen_of, unseen, signed_on, noted, LastRead}
use Rattle.records.specs.declared.Found.{Found}

module _ (m : List ℕ) (l : Found) where
  last_on : (k : Kept) (hit : Bool) (section place : ℕ) → RecordSkipped m place (Ok l) → LastRead m (signed_on k hit section place) l
  last_on Never true section place q = q
  last_on Never false section place q = tt
  last_on (Once s p) hit section place q = tt
  last_on More hit section place q = tt

  pub last_noted :
      (n n' : Notes) (section place kind : ℕ)
      → seen_of n' ≡ noted (seen_of n) section place kind
      → {f : Result Found ℕ}
      → RecordSkipped m place f
      → f ≡ Ok l
      → LastRead m (kept_of n'.sign) l
  unfolding noted
  last_noted n n' section place kind e q is =
      subst (λ (k : Kept). LastRead m k l) (sym (ap (λ (s : Seen). s.sign) e))
      (last_on (kept_of n.sign) (eqb kind 250) section place (subst (RecordSkipped m place) is q))

  pub last_begins : (n : Notes) → seen_of n ≡ unseen → LastRead m (kept_of n.sign) l
  last_begins n e = subst (λ (k : Kept). LastRead m k l) (sym (ap (λ (s : Seen). s.sign) e)) tt

  pub last_ends : (n : Notes) (seen : Seen) → seen ≡ seen_of n → LastRead m (kept_of n.sign) l → LastRead m seen.sign l
  last_ends n seen e q = subst (λ (k : Kept). LastRead m k l) (sym (ap (λ (s : Seen). s.sign) e)) q
