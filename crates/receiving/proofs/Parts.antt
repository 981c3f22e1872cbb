-- Laws of the TSIG that is told in lent arrays. Assumes nothing.
use Prim.Native.Nat.{ℕ}
use mathlib.Core.Path.{◌≡◌, refl, subst, ◌∙◌}
use Rattle.std.specs.Prelude.{None, Some, Result, Ok, Err}
use mathlib.Core.List.{List}
use native.Mathlib.Omega.{arith}
use lib.ListN.{take}
use Rattle.model.specs.Octets.{put}
use Rattle.model.specs.Signing.{read_back}
use Rattle.octets.specs.Wrote.{Wrote}
use Rattle.octets.proofs.Laws.{wrote_put, part_length}
use Rattle.octets.proofs.Back.{put_front}
use Rattle.matching.specs.Compare.{name_standing}
use Rattle.records.specs.Record.{cut}
use Rattle.digests.specs.declared.Refusal.{Refusal}
use Rattle.digests.specs.Left.{number_of}
use Rattle.unsigning.specs.declared.TsigRead.{TsigRead}
use Rattle.unsigning.specs.Unsigning.{tsig_at, BackRead}
use Rattle.unsigning.proofs.Back.{stands}
use Rattle.receiving.specs.Receiving.{TsigTold}

module _ (m : List ℕ) (s : Result TsigRead Refusal) (q : BackRead m s) (name algorithm : List ℕ) where
  -- refused
  pub told_none : (r : Refusal) → s ≡ Err r → TsigTold m name algorithm name algorithm (Err r)
  unfolding put
  told_none r h =
      let e : read_back m ≡ record { number = number_of r; tsig = None } = q.says ∙ rw h refl in
      record { says = e; named = rw e refl; hashed = rw e refl; lies = tt }

  -- a TSIG whose names are written
  pub told_parts : (t : TsigRead) → s ≡ Ok t → (hash : List ℕ) → hash ≡ cut m t.fields.algorithm → {name' algorithm' : List ℕ} {n k : ℕ}
      → Wrote (name_standing m t.place) 0 name name' n → Wrote hash 0 algorithm algorithm' k
      → TsigTold m name algorithm name' algorithm' (Ok (record { named = n; fields = t.fields }))
  told_parts t h hash g w v =
      let e : read_back m ≡ record { number = 0; tsig = Some (tsig_at m t) } = q.says ∙ rw h refl in
      let f = (stands q h).fits in
      let p = wrote_put w in
      let o = wrote_put (rw g at v) in
      let size = part_length m t.fields.algorithm.from t.fields.algorithm.size f.algorithm in
      let a = put_front (name_standing m t.place) name in
      let xs = cut m t.fields.algorithm in
      let b : take t.fields.algorithm.size (put xs algorithm) ≡ xs = subst (λ n. take n (put xs algorithm) ≡ xs) size (put_front xs algorithm) in
      rw (p.0, p.1, o.1)
      (record {
        says = e ∙ rw (a, b) refl;
        named = rw e refl;
        hashed = rw e refl;
        lies = record { named = omega (arith, w.room, p.0); hashed = omega (arith, v.room, o.0, size); mac = f.mac; other = f.other };
      })
