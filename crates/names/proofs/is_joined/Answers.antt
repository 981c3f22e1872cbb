-- `names::is_joined` meets its contract: the name is compared in two parts. Assumes nothing.
use mathlib.Core.Path.{◌≡◌, sym, ◌∙◌}
use mathlib.Core.Bool.{true, false, false≢true}
use borrow.Author.Tests.{lt-leb}
use native.Mathlib.Omega.{arith}
use Rattle.names.proofs.Same.{too_short, other_front, same_front_lem}
use Rattle.names.proofs.is_joined.Goals.{then-n-name, else-n-name}
use Rattle.names.proofs.is_joined.Goals as goal

pub returns-then-same_name : goal.returns-then-same_name
returns-then-same_name c =
    let a = c.args in
    let more : c.if-n-name.value ≡ true = c.if-same_name.true in
    elim c.if-n-name.branch [
      | then-n-name w ↦
          let front = sym w.same_name.ensures ∙ sym w.value-is ∙ more in
          c.same_name-then-same_name.ensures ∙ sym (same_front_lem a.name.now a.label.now a.suffix.now a.n (omega arith) (omega arith) front)
      | else-n-name w ↦ absurd (false≢true (sym (lt-leb _ _ w.if-n-name.false) ∙ sym w.value-is ∙ more))
    ]

pub returns-else-same_name : goal.returns-else-same_name
returns-else-same_name c =
    let a = c.args in
    let none : c.if-n-name.value ≡ false = c.if-same_name.false in
    elim c.if-n-name.branch [
      | then-n-name w ↦
          let front = sym w.same_name.ensures ∙ sym w.value-is ∙ none in
          none ∙ sym (other_front a.name.now a.label.now a.suffix.now a.n (omega arith) (omega arith) front)
      | else-n-name w ↦ none ∙ sym (too_short a.name.now a.label.now a.suffix.now a.n (omega arith) w.if-n-name.false)
    ]
