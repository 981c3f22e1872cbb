-- The test of a KEY record, by what was read of its owner name. Assumes nothing.
use Prim.Native.Nat.{ℕ, ◌+◌, ◌-◌, ◌≤◌, ◌<◌}
use mathlib.Core.Path.{◌≡◌, refl, sym}
use mathlib.Core.Bool.{Bool, true, false, and-false}
use mathlib.Core.List.{List}
use native.Mathlib.Omega.{arith}
use borrow.Author.Tests.{eq-eqb, ne_eqb, eqb-true, eqb-false}
use lib.Dec.{eqb}
use lib.ListN.{length}
use Rattle.model.specs.Octets.{u16_at}
use Rattle.model.specs.Names.{read_plain}
use Rattle.model.specs.Tkey.{key_type, is_key_record}
use Rattle.std.specs.Prelude.{Result, Err, Ok}
use Rattle.compression.specs.Name.{NameRead}
use Rattle.compression.specs.declared.Name.{Name}

same_test : (a b c d : ℕ) → (a ≡ b → c ≡ d) → (c ≡ d → a ≡ b) → eqb a b ≡ eqb c d
same_test a b c d to from = by (eqb c d) refl
  where
    by : (t : Bool) → eqb c d ≡ t → eqb a b ≡ t
    by true e = eq-eqb a b (from (eqb-true c d e))
    by false e = ne_eqb a b (λ x. eqb-false c d e (to x))

module _ (key out : List ℕ) (g : Result Name ℕ) (n : NameRead key (read_plain key 0) out g) where
  pub key_unnamed : (place : ℕ) → g ≡ Err place → false ≡ is_key_record key
  unfolding is_key_record
  key_unnamed place e = simp (n.says, e)

  module _ (len next : ℕ) (e : g ≡ Ok (record { len = len; next = next })) where
    pub key_within : next ≤ length key
    key_within = rw e at n.within

    pub key_cut : length key < next + 10 → false ≡ is_key_record key
    unfolding is_key_record
    key_cut h = simp (n.says, e, ne_eqb (next + 10 + u16_at key (next + 8)) (length key) (λ x. omega arith), and-false)

    module _ (kind : ℕ) (typed : (kind ≡ u16_at key next) × (kind < 65536)) where
      pub key_other : (kind ≡ 25 → ⊥) → false ≡ is_key_record key
      unfolding is_key_record key_type
      key_other h = simp (n.says, e, sym typed.0, ne_eqb kind 25 h)

      pub key_filled : kind ≡ 25 → next + 10 ≤ length key → (size : ℕ) → (size ≡ u16_at key (next + 8)) × (size < 65536)
          → eqb (length key - (next + 10)) size ≡ is_key_record key
      unfolding is_key_record key_type
      key_filled h room size sized =
          simp (n.says, e, sym typed.0, eq-eqb kind 25 h, sym sized.0) (same_test (length key - (next + 10)) size (next + 10 + size) (length key) (λ x. omega arith) (λ x. omega arith))
