-- `lines::read_clock` meets its contract, field by field. Assumes nothing.
use mathlib.Core.Path.{refl, sym, ◌∙◌}
use Rattle.model.specs.Listing.{clock_word}
use Rattle.model.specs.Lines.{plain_number, clock_said, read_clock}
use Rattle.lines.proofs.Steps.{unheaded, begins, stops, steps, ends}
use Rattle.lines.proofs.read_clock.Goals as goal

pub returns-in_err-first : goal.returns-in_err-first
unfolding read_clock
returns-in_err-first c =
    c.from_residual.ensures
    ∙ sym (unheaded clock_word _ clock_said c.in_err-first.ensures)

pub returns-in_err-clock : goal.returns-in_err-clock
unfolding read_clock
returns-in_err-clock c =
    c.from_residual-in_err-clock.ensures
    ∙ sym (begins clock_word _ clock_said c.in_ok-first.first c.in_ok-first.ensures ∙ stops plain_number _ _ _ c.in_err-clock.ensures)

pub returns-in_err-floor : goal.returns-in_err-floor
unfolding read_clock
returns-in_err-floor c =
    c.from_residual-in_err-floor.ensures
    ∙ sym (begins clock_word _ clock_said c.in_ok-first.first c.in_ok-first.ensures ∙ steps plain_number _ _ _ c.in_ok-clock.clock.said c.in_ok-clock.clock.next c.in_ok-clock.ensures ∙ stops plain_number _ _ _ c.in_err-floor.ensures)

pub returns-then-not-is_end : goal.returns-then-not-is_end
unfolding read_clock
returns-then-not-is_end c =
    sym (begins clock_word _ clock_said c.in_ok-first.first c.in_ok-first.ensures ∙ steps plain_number _ _ _ c.in_ok-clock.clock.said c.in_ok-clock.clock.next c.in_ok-clock.ensures ∙ steps plain_number _ _ _ c.in_ok-floor.floor.said c.in_ok-floor.floor.next c.in_ok-floor.ensures ∙ ends _ _ _ ∙ rw (sym c.is_end.ensures ∙ c.if-not-is_end.true) refl)

pub returns : goal.returns
unfolding read_clock
returns c =
    sym (begins clock_word _ clock_said c.in_ok-first.first c.in_ok-first.ensures ∙ steps plain_number _ _ _ c.in_ok-clock.clock.said c.in_ok-clock.clock.next c.in_ok-clock.ensures ∙ steps plain_number _ _ _ c.in_ok-floor.floor.said c.in_ok-floor.floor.next c.in_ok-floor.ensures ∙ ends _ _ _ ∙ rw (sym c.is_end.ensures ∙ c.if-not-is_end.false) refl)
