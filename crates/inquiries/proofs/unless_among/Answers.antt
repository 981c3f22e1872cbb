-- `inquiries::unless_among` meets its contract. Assumes nothing.
use mathlib.Core.Path.{sym, ◌∙◌}
use Rattle.inquiries.proofs.Laws.{unless_adopted, unless_waiting, unless_gone}
use Rattle.inquiries.proofs.unless_among.Goals as goal

pub returns-then-serial-adopted_serial : goal.returns-then-serial-adopted_serial
returns-then-serial-adopted_serial c = unless_adopted _ _ (c.if-serial-adopted_serial.true ∙ c.adopted_serial.ensures)

pub returns-then-serial-waiting_serial : goal.returns-then-serial-waiting_serial
returns-then-serial-waiting_serial c = unless_waiting _ _ (λ e. c.if-serial-adopted_serial.false (e ∙ sym c.adopted_serial.ensures)) (c.if-serial-waiting_serial.true ∙ c.waiting_serial.ensures)

pub returns : goal.returns
returns c = unless_gone _ _ (λ e. c.if-serial-adopted_serial.false (e ∙ sym c.adopted_serial.ensures)) (λ e. c.if-serial-waiting_serial.false (e ∙ sym c.waiting_serial.ensures))
