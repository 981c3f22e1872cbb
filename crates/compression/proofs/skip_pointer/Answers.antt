-- `compression::skip_pointer` meets its contract: what stands there is what `pointer_at` answers, and that is neither the end nor a label. Assumes nothing.
use Prim.Native.Nat.{ℕ, ◌≤◌, ◌<◌}
use mathlib.Core.Path.{◌≡◌, refl, ap, ◌∙◌}
use mathlib.Core.List.{List}
use native.Mathlib.Omega.{arith}
use borrow.Author.Rules.{rules}
use lib.ListN.{length, get_or}
use Rattle.model.specs.Octets.{Reading}
use Rattle.model.specs.Names.{Item, pointer_at, item_at}
use Rattle.compression.specs.Name.{item_of}
use Rattle.compression.proofs.Laws.{item_fine}
use Rattle.compression.proofs.Steps.{item_of_pointer}
use Rattle.compression.proofs.Skipping.{going_starts, going_fails, going_follows}
use Rattle.compression.proofs.skip_pointer.Goals as goal

stands : (m : List ℕ) (first place used : ℕ) → (place < length m) × (192 ≤ get_or m place 0) × (used < 255) → {i : Item} → pointer_at m first place ≡ i
    → item_at m first place used ≡ i
stands m first place used pre e = item_of_pointer m first place used pre.0 (get_or m place 0) refl pre.1 ∙ e

pub follow-requires : goal.follow-requires
follow-requires c =
    let f = item_fine _ _ _ _ (stands c.args.m.now c.args.first c.args.place c.args.used c.requires (c.pointer_at.ensures ∙ ap item_of c.in-Points.is)) in
    search rules

pub returns-in-Fails : goal.returns-in-Fails
returns-in-Fails c = λ before h.
    going_fails _ (λ (r : Reading (List ℕ)). r) _ _ _ _ c.requires.2 (going_starts _ _ _ _ _ before h) _
    (stands c.args.m.now c.args.first c.args.place c.args.used c.requires (c.pointer_at.ensures ∙ ap item_of c.in-Fails.is)) refl

pub returns-in-Ends : goal.returns-in-Ends
returns-in-Ends c =
    let f = item_fine _ _ _ _ (stands c.args.m.now c.args.first c.args.place c.args.used c.requires (c.pointer_at.ensures ∙ ap item_of c.in-Ends.is)) in
    absurd (omega (arith, f, c.requires))

pub returns-in-Label : goal.returns-in-Label
returns-in-Label c =
    let f = item_fine _ _ _ _ (stands c.args.m.now c.args.first c.args.place c.args.used c.requires (c.pointer_at.ensures ∙ ap item_of c.in-Label.is)) in
    absurd (omega (arith, f, c.requires))

pub returns-in-Points : goal.returns-in-Points
returns-in-Points c = λ before h.
    going_follows _ (λ (r : Reading (List ℕ)). r) _ _ _ _ c.requires.2 (going_starts _ _ _ _ _ before h) _ _
    (stands c.args.m.now c.args.first c.args.place c.args.used c.requires (c.pointer_at.ensures ∙ ap item_of c.in-Points.is))
    (λ n. refl) c.follow.ensures
