-- A message of at most 65,535 octets counts so few additional records that one more can be counted: each that is read takes two octets at least (it takes 11).
-- Assumes nothing.
use Prim.Native.Nat.{ℕ, zero, suc, ◌+◌, ◌≤◌, ◌<◌}
use mathlib.Core.Path.{◌≡◌, refl, subst}
use mathlib.Core.List.{List, [], ◌∷◌, ◌++◌}
use native.Mathlib.Omega.{arith}
use lib.Dec.{ltb}
use lib.ListN.{length}
use Rattle.model.specs.Octets.{u16_at, Reading, stops, reads, then, also, many}
use Rattle.model.specs.Names.{read_name}
use Rattle.model.specs.Messages.{Record, Message, record_data, after_owner, record_at, section, answer_section, authority_section, additional_section, read_message}
use Rattle.model.specs.Signing.{first_records}
use Rattle.model.proofs.Tests.{either}
use Rattle.printed.proofs.Appended.{name_after}
use Rattle.printed.proofs.Signed.{parsed}

-- what was read ends at the place n or after it
abbrev Least : {A : Type 0} → ℕ → Reading A → Type 0
Least n (stops place) = Unit {0}
Least n (reads a next) = n ≤ next

weaker : {A : Type 0} (n k : ℕ) (r : Reading A) → k ≤ n → Least n r → Least k r
weaker n k (stops place) l h = tt
weaker n k (reads a next) l h = omega arith

later : {A B : Type 0} (k : ℕ) (r : Reading A) (f : A → ℕ → Reading B) → ((a : A) (next : ℕ) → Least k (f a next)) → Least k (then r f)
later k (stops place) f on = tt
later k (reads a next) f on = on a next

least_then : {A B : Type 0} (n k : ℕ) (r : Reading A) (f : A → ℕ → Reading B) → Least n r → ((a : A) (next : ℕ) → n ≤ next → Least k (f a next)) → Least k (then r f)
least_then n k (stops place) f h on = tt
least_then n k (reads a next) f h on = on a next h

least_also : {A B : Type 0} (n k : ℕ) (f : A → B) (r : Reading A) → k ≤ n → Least n r → Least k (also f r)
least_also n k f (stops place) l h = tt
least_also n k f (reads a next) l h = omega arith

least_many : {A : Type 0} (one : ℕ → Reading A) → ((at : ℕ) → Least (at + 2) (one at)) → (n at : ℕ) → Least (at + n + n) (many one n at)
unfolding many
least_many one h zero at = omega arith
least_many one h (suc n) at =
    least_then (at + 2) (at + suc n + suc n) (one at) (λ a next. also (λ rest. a ∷ rest) (many one n next)) (h at) λ a next l.
    least_also (next + n + n) (at + suc n + suc n) (λ rest. a ∷ rest) (many one n next) (omega arith) (least_many one h n next)

module _ (m : List ℕ) where
  least_name : (at : ℕ) → Least at (read_name m at)
  least_name at = go (read_name m at) refl
    where
      go : (r : Reading (List ℕ)) → read_name m at ≡ r → Least at r
      go (stops place) e = tt
      go (reads name next) e = let l = name_after m at name next e in omega arith

  least_owner : (s : ℕ) (owner : List ℕ) (at : ℕ) → Least (at + 2) (after_owner m s owner at)
  unfolding after_owner record_data
  least_owner s owner at =
      either (Least (at + 2)) (ltb (length m) (at + 10)) (λ _. tt) λ _.
      either (Least (at + 2)) (ltb (length m) (at + 10 + u16_at m (at + 8))) (λ _. tt) (λ _. omega arith)

  least_record : (s at : ℕ) → Least (at + 2) (record_at m s at)
  unfolding record_at
  least_record s at =
      least_then at (at + 2) (read_name m at) (after_owner m s) (least_name at) λ owner next l.
      weaker (next + 2) (at + 2) (after_owner m s owner next) (omega arith) (least_owner s owner next)

  least_section : (s k : ℕ) (before : List Record) (at : ℕ) → Least (k + k) (section m s k before at)
  unfolding section
  least_section s k before at = least_also (at + k + k) (k + k) (λ rs. before ++ rs) (many (record_at m s) k at) (omega arith) (least_many (record_at m s) (least_record s) k at)

  least_first : (k at : ℕ) → Least (k + k) (first_records m k at)
  unfolding first_records
  least_first k at =
      later (k + k) (section m answer_section (u16_at m 6) [] at) _ λ answers place.
      later (k + k) (section m authority_section (u16_at m 8) answers place) _ λ both next.
      least_section additional_section k both next

  pub counts_one_more : (q : Message) (next : ℕ) → read_message m ≡ reads q next → length m ≤ 65535 → u16_at m 10 + 1 < 65536
  counts_one_more q next e h =
      let p = parsed m q next e in
      let l = subst (Least (u16_at m 10 + u16_at m 10)) p.listed (least_first (u16_at m 10) p.end) in
      omega arith
