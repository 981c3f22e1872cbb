-- The name that stands in a message, as a slice of the message or written out, and what follows its first label. Assumes nothing.
use Prim.Native.Nat.{ℕ, ◌≤◌}
use mathlib.Core.List.{List}
use mathlib.Core.Path.{◌≡◌, sym, ap, subst, ◌∙◌}
use native.Mathlib.Omega.{arith}
use lib.ListN.{length, take}
use lib.Seq.{length-take-le}
use Rattle.model.specs.Octets.{Reading, stops, reads}
use Rattle.model.specs.Names.{read_name, after_label}
use Rattle.std.specs.Prelude.{Result, Err, Ok}
use Rattle.compression.specs.Name.{shown, NameRead}
use Rattle.matching.specs.Compare.{name_standing, Readable}
use Rattle.matching.proofs.Comparing.{readable_is}
use Rattle.searching.specs.Search.{Sought}
use Rattle.compression.specs.declared.Name.{Name}

-- ── The name ────────────────────────────────────────────────────────────────────────────────────────────────────────

never_stops : {p : ℕ} {octets : List ℕ} {next : ℕ} → ◌≡◌ {A = Reading (List ℕ)} (stops p) (reads octets next) → ⊥
never_stops e = let z : ◌≡◌ {A = ℕ} 0 1 = cc in omega arith

module _ (m : List ℕ) (at : ℕ) {out : List ℕ} {r : Result Name ℕ} (read : NameRead m (read_name m at) out r) where
  -- a name that can be read is not refused
  pub never_bad : {p : ℕ} → Readable m at → r ≡ Err p → ⊥
  never_bad rd e = never_stops (sym (read.says ∙ ap (λ (g : Result Name ℕ). shown g out) e) ∙ rd.says)

  pub written_all : {len next : ℕ} → r ≡ Ok (record { len = len; next = next }) → len ≡ length (take len out)
  written_all {len} e = let s : len ≤ 255 = rw e at read.short in sym (length-take-le len out (omega (arith, read.room)))

  pub standing_written : {len next : ℕ} → r ≡ Ok (record { len = len; next = next }) → name_standing m at ≡ take len out
  standing_written {len} {next} e = readable_is m at (take len out) next (read.says ∙ ap (λ (g : Result Name ℕ). shown g out) e)

-- the search by what follows the label of a name, where that is the name that stands there
pub sought_after : (m : List ℕ) (at : ℕ) {w s name own : List ℕ} {r : Result ℕ ℕ} → name_standing m at ≡ name → own ≡ after_label name → Sought w s own r
    → Sought w s (after_label (name_standing m at)) r
sought_after m at {w} {s} {r = r} e o f = subst (λ (x : List ℕ). Sought w s x r) (o ∙ ap after_label (sym e)) f
