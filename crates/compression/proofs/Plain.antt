-- A name without pointers: the whole is read on from here, after the octets between. Assumes nothing.
use Prim.Native.Nat.{ℕ, ◌+◌, ◌-◌, ◌≤◌, ◌<◌}
use mathlib.Core.Path.{◌≡◌, refl, ap, sym, ◌∙◌}
use mathlib.Core.List.{List, [], ◌∷◌, ◌++◌}
use native.Mathlib.Omega.{arith}
use lib.ListN.{length, take, drop, length-drop}
use lib.Seq.{length-take-le, take-add, drop-drop, drop-cons}
use Rattle.model.specs.Octets.{reads}
use Rattle.model.specs.Names.{Item, ends, label, item_at, step, read_on, read_name}
use Rattle.model.proofs.Reader.{unfolds}
use Rattle.compression.specs.Plain.{PlainTo}
use Rattle.compression.proofs.Laws.{item_fine}

-- what is left: it is read on at `place`, after what lies from `at` up to there
pub record Plainly (m : List ℕ) (at place : ℕ) : Type 0 where
  pub from : at ≤ place
  pub few : place - at < 255
  pub counted : length (take (place - at) (drop at m)) ≡ place - at
  pub says : read_name m at ≡ read_on m at place (take (place - at) (drop at m))

none_taken : (k : ℕ) (xs : List ℕ) → k ≡ 0 → take k xs ≡ []
none_taken k xs e = rw e refl

pub plainly_starts : (m : List ℕ) (at : ℕ) → Plainly m at at
unfolding read_name
plainly_starts m at =
    let z : take (at - at) (drop at m) ≡ [] = none_taken (at - at) (drop at m) (omega arith) in
    record {
      from = omega arith;
      few = omega arith;
      counted = ap length z ∙ omega arith;
      says = ap (read_on m at at) (sym z);
    }

module _ (m : List ℕ) (at place : ℕ) (g : Plainly m at place) where
  -- k octets more
  further : (k : ℕ) → take (place - at) (drop at m) ++ take k (drop place m) ≡ take (place + k - at) (drop at m)
  further k =
      let n : place + k - at ≡ place - at + k = omega (arith, g.from) in
      let p : at + (place - at) ≡ place = omega (arith, g.from) in
      sym (rw n (take-add (place - at) k (drop at m) ∙ rw (drop-drop (place - at) at m, p) refl))

  here : {i : Item} → item_at m at place (place - at) ≡ i → read_name m at ≡ step (read_on m) m at place (take (place - at) (drop at m)) i
  here e = g.says ∙ unfolds m at place (take (place - at) (drop at m)) (omega (arith, g.counted, g.few)) ∙ rw (g.counted, e) refl

  pub plainly_ends : item_at m at place (place - at) ≡ ends → PlainTo m at (place + 1)
  plainly_ends e =
      let f = item_fine m at place (place - at) e in
      let z : take 1 (drop place m) ≡ 0 ∷ [] = rw (drop-cons m place 0 f.0) (ap (λ (x : ℕ). x ∷ []) f.1) in
      record {
        says = here e ∙ ap (λ (o : List ℕ). reads o (place + 1)) (ap (λ (x : List ℕ). take (place - at) (drop at m) ++ x) (sym z) ∙ further 1);
        after = omega (arith, g.from);
        within = omega (arith, f.0);
      }

  pub plainly_label : (n : ℕ) → item_at m at place (place - at) ≡ label n → Plainly m at (place + (n + 1))
  plainly_label n e =
      let f = item_fine m at place (place - at) e in
      record {
        from = omega (arith, g.from);
        few = omega (arith, g.from, f.0);
        counted = length-take-le (place + (n + 1) - at) (drop at m) (rw length-drop (omega (arith, g.from, f.1)));
        says = here e ∙ ap (read_on m at (place + (n + 1))) (further (n + 1));
      }
