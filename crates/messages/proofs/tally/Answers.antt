-- `messages::tally` meets its contract. Assumes nothing.
use mathlib.Core.Path.{refl, ap, ◌∙◌}
use Prim.Native.Nat.{ℕ}
use Rattle.messages.specs.Scan.{kept_by}
use Rattle.messages.proofs.Counts.{hit_so}
use Rattle.messages.proofs.tally.Goals as goal

pub returns-then-hit : goal.returns-then-hit
returns-then-hit c =
    let a = c.args in
    ap (λ (n : ℕ). kept_by n a.section a.place) c.one_more.ensures ∙ hit_so a.h.section a.h.place a.section a.place a.h.count ∙ rw c.if-hit.true refl

pub returns-else-hit : goal.returns-else-hit
returns-else-hit c = rw c.if-hit.false refl
