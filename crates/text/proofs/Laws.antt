-- Numbers and octets as text: which digits, and how many. Assumes nothing.
use mathlib.Core.Path.{◌≡◌, refl, sym, ◌∙◌}
use mathlib.Core.List.{List, [], ◌∷◌, ◌++◌}
use Prim.Native.Nat.{ℕ, ◌+◌, ◌<◌}
use native.Mathlib.Numerals.{add-one}
use borrow.Author.Tests.{ne_eqb}
use lib.ListN.{length, take, get_or}
use lib.Seq.{take-suc}
use Rattle.model.specs.Names.{decimal}
use Rattle.model.specs.Text.{numeral, hex_of}

-- ── Numbers ─────────────────────────────────────────────────────────────────────────────────────────────────────────

pub numeral_zero : {n : ℕ} → n ≡ 0 → 48 ∷ [] ≡ numeral n
unfolding numeral
numeral_zero z = rw z refl

pub numeral_some : (n : ℕ) → (n ≡ 0 → ⊥) → decimal n ≡ numeral n
unfolding numeral
numeral_some n h = rw (numeral, ne_eqb n 0 h) refl

-- ── Octets ──────────────────────────────────────────────────────────────────────────────────────────────────────────

hex_append : (xs ys : List ℕ) → hex_of (xs ++ ys) ≡ hex_of xs ++ hex_of ys
unfolding hex_of
hex_append [] ys = refl
hex_append (x ∷ xs) ys = rw (hex_append xs ys) refl

-- one octet more
pub hex_more : (s : List ℕ) (i : ℕ) → i < length s → hex_of (take i s) ++ hex_of (get_or s i 0 ∷ []) ≡ hex_of (take (i + 1) s)
hex_more s i h = sym (hex_append (take i s) (get_or s i 0 ∷ [])) ∙ rw (add-one, take-suc s i 0) refl
