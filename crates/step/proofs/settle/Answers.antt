-- `step::settle` meets its contract. Assumes nothing.
use mathlib.Core.Path.{◌≡◌, ◌∙◌, ap, sym}
use mir.Val.{of_z, to_z}
use mir.Syntax.{w64}
use Rattle.std.specs.Prelude.{ℕ, Option}
use Rattle.step.specs.Steps.{settled}
use Rattle.step.proofs.StepLaws.{settled_so}
use borrow.Author.Rules.{rules}
use Rattle.step.proofs.settle.Goals as goal

pub returns-in-None : goal.returns-in-None
returns-in-None c = let a = c.args in c.refused.ensures ∙ sym (ap (λ (w : Option ℕ). settled a.j w a.p a.time) c.in-None.is)

pub returns-in-Some : goal.returns-in-Some
returns-in-Some c =
    let a = c.args in
    let s : to_z w64 (of_z w64 c.effect_of-e.result.skew) ≡ c.effect_of-e.result.skew = search rules in
    settled_so a.j _ a.p a.time c.effect_of-e.ensures s
    ∙ sym (ap (λ (w : Option ℕ). settled a.j w a.p a.time) c.in-Some.is)
