-- `lines::last_numbers` meets its contract, field by field. Assumes nothing.
use mathlib.Core.Path.{refl, sym, ◌∙◌}
use Rattle.model.specs.Lines.{plain_number}
use Rattle.lines.specs.Fields.{last_numbers}
use Rattle.lines.proofs.Steps.{stops, steps, ends}
use Rattle.lines.proofs.last_numbers.Goals as goal

pub returns-in_err-a : goal.returns-in_err-a
unfolding last_numbers
returns-in_err-a c =
    c.from_residual.ensures
    ∙ sym (stops plain_number _ _ _ c.in_err-a.ensures)

pub returns-in_err-b : goal.returns-in_err-b
unfolding last_numbers
returns-in_err-b c =
    c.from_residual-in_err-b.ensures
    ∙ sym (steps plain_number _ _ _ c.in_ok-a.a.said c.in_ok-a.a.next c.in_ok-a.ensures ∙ stops plain_number _ _ _ c.in_err-b.ensures)

pub returns-in_err-c : goal.returns-in_err-c
unfolding last_numbers
returns-in_err-c c =
    c.from_residual-in_err-c.ensures
    ∙ sym (steps plain_number _ _ _ c.in_ok-a.a.said c.in_ok-a.a.next c.in_ok-a.ensures ∙ steps plain_number _ _ _ c.in_ok-b.b.said c.in_ok-b.b.next c.in_ok-b.ensures ∙ stops plain_number _ _ _ c.in_err-c.ensures)

pub returns-then-not-is_end : goal.returns-then-not-is_end
unfolding last_numbers
returns-then-not-is_end c =
    sym (steps plain_number _ _ _ c.in_ok-a.a.said c.in_ok-a.a.next c.in_ok-a.ensures ∙ steps plain_number _ _ _ c.in_ok-b.b.said c.in_ok-b.b.next c.in_ok-b.ensures ∙ steps plain_number _ _ _ c.in_ok-c.c.said c.in_ok-c.c.next c.in_ok-c.ensures ∙ ends _ _ _ ∙ rw (sym c.is_end.ensures ∙ c.if-not-is_end.true) refl)

pub returns : goal.returns
unfolding last_numbers
returns c =
    sym (steps plain_number _ _ _ c.in_ok-a.a.said c.in_ok-a.a.next c.in_ok-a.ensures ∙ steps plain_number _ _ _ c.in_ok-b.b.said c.in_ok-b.b.next c.in_ok-b.ensures ∙ steps plain_number _ _ _ c.in_ok-c.c.said c.in_ok-c.c.next c.in_ok-c.ensures ∙ ends _ _ _ ∙ rw (sym c.is_end.ensures ∙ c.if-not-is_end.false) refl)
