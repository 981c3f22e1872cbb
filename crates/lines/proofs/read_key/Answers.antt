-- `lines::read_key` meets its contract, field by field. Assumes nothing.
use mathlib.Core.Path.{sym, ◌∙◌}
use Rattle.model.specs.Listing.{key_word}
use Rattle.model.specs.Lines.{plain_number, is_adopted, algorithm_said, key_said, read_key}
use Rattle.lines.proofs.Steps.{unheaded, begins, stops, steps, numbers_are}
use Rattle.lines.proofs.read_key.Goals as goal

pub returns-in_err-first : goal.returns-in_err-first
unfolding read_key
returns-in_err-first c =
    c.from_residual.ensures
    ∙ sym (unheaded key_word _ key_said c.in_err-first.ensures)

pub returns-in_err-adopted : goal.returns-in_err-adopted
unfolding read_key
returns-in_err-adopted c =
    c.from_residual-in_err-adopted.ensures
    ∙ sym (begins key_word _ key_said c.in_ok-first.first c.in_ok-first.ensures ∙ stops is_adopted _ _ _ c.in_err-adopted.ensures)

pub returns-in_err-serial : goal.returns-in_err-serial
unfolding read_key
returns-in_err-serial c =
    c.from_residual-in_err-serial.ensures
    ∙ sym (begins key_word _ key_said c.in_ok-first.first c.in_ok-first.ensures ∙ steps is_adopted _ _ _ c.in_ok-adopted.adopted.said c.in_ok-adopted.adopted.next c.in_ok-adopted.ensures ∙ stops plain_number _ _ _ c.in_err-serial.ensures)

pub returns-in_err-algorithm : goal.returns-in_err-algorithm
unfolding read_key
returns-in_err-algorithm c =
    c.from_residual-in_err-algorithm.ensures
    ∙ sym (begins key_word _ key_said c.in_ok-first.first c.in_ok-first.ensures ∙ steps is_adopted _ _ _ c.in_ok-adopted.adopted.said c.in_ok-adopted.adopted.next c.in_ok-adopted.ensures ∙ steps plain_number _ _ _ c.in_ok-serial.serial.said c.in_ok-serial.serial.next c.in_ok-serial.ensures ∙ stops algorithm_said _ _ _ c.in_err-algorithm.ensures)

pub returns-in_err-inception : goal.returns-in_err-inception
unfolding read_key
returns-in_err-inception c =
    c.from_residual-in_err-inception.ensures
    ∙ sym (begins key_word _ key_said c.in_ok-first.first c.in_ok-first.ensures ∙ steps is_adopted _ _ _ c.in_ok-adopted.adopted.said c.in_ok-adopted.adopted.next c.in_ok-adopted.ensures ∙ steps plain_number _ _ _ c.in_ok-serial.serial.said c.in_ok-serial.serial.next c.in_ok-serial.ensures ∙ steps algorithm_said _ _ _ c.in_ok-algorithm.algorithm.said c.in_ok-algorithm.algorithm.next c.in_ok-algorithm.ensures ∙ numbers_are _ _ _ _ (sym c.in_err-inception.ensures))

pub returns : goal.returns
unfolding read_key
returns c =
    sym (begins key_word _ key_said c.in_ok-first.first c.in_ok-first.ensures ∙ steps is_adopted _ _ _ c.in_ok-adopted.adopted.said c.in_ok-adopted.adopted.next c.in_ok-adopted.ensures ∙ steps plain_number _ _ _ c.in_ok-serial.serial.said c.in_ok-serial.serial.next c.in_ok-serial.ensures ∙ steps algorithm_said _ _ _ c.in_ok-algorithm.algorithm.said c.in_ok-algorithm.algorithm.next c.in_ok-algorithm.ensures ∙ numbers_are _ _ _ _ (sym c.in_ok-inception.ensures))
