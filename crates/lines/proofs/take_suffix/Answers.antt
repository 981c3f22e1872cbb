-- `lines::take_suffix` meets its contract: the field behind the tab, as a suffix. Assumes nothing.
use Prim.Native.Nat.{ℕ, ◌≤◌}
use mathlib.Core.Path.{refl, subst}
use native.Mathlib.Omega.{arith}
use Rattle.std.proofs.lemmas.Option.{same_Some}
use Rattle.model.specs.Lines.{suffix_said}
use Rattle.lines.specs.declared.Field.{Field}
use Rattle.lines.proofs.Laws.{suffix_bound}
use Rattle.lines.proofs.Steps.{no_field, field_says}
use Rattle.lines.proofs.take_suffix.Goals as goal

pub returns-in_err-next : goal.returns-in_err-next
returns-in_err-next c =
    rw c.from_residual.ensures (record { says = no_field suffix_said _ _ c.in_err-next.ensures.says; long = refl; bound = λ f e. grind arith })

pub returns-in_err-said : goal.returns-in_err-said
returns-in_err-said c =
    let s = c.in_err-said.ensures in
    let n = field_says suffix_said _ _ _ c.in_ok-next.next _ c.in_ok-next.ensures.says s.are in
    rw c.from_residual-in_err-said.ensures (record { says = n; long = s.long; bound = λ f e. grind arith })

pub returns : goal.returns
returns c =
    let s = c.in_ok-said.ensures in
    let most = suffix_bound _ _ c.in_ok-said.said s.are s.fits in
    record {
      says = field_says suffix_said _ _ _ c.in_ok-next.next _ c.in_ok-next.ensures.says s.are;
      long = s.long;
      bound = λ f e. let P : Field ℕ → Type 0 = λ f. f.said ≤ 128 in subst P (same_Some _ _ e) most;
    }
