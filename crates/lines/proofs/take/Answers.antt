-- `lines::take` meets its contract: the field behind the tab, and what it says. Assumes nothing.
use mathlib.Core.Path.{sym}
use Rattle.lines.proofs.Steps.{no_field, field_says}
use Rattle.lines.proofs.take.Goals as goal

pub returns-in_err-next : goal.returns-in_err-next
returns-in_err-next g c =
    let n = no_field g.T.Said.said _ _ c.in_err-next.ensures.says in
    rw c.from_residual.ensures n

pub returns-in_err-said : goal.returns-in_err-said
returns-in_err-said g c =
    let n = field_says g.T.Said.said _ _ _ c.in_ok-next.next _ c.in_ok-next.ensures.says (sym c.in_err-said.ensures) in
    rw c.from_residual-in_err-said.ensures n

pub returns : goal.returns
returns g c = field_says g.T.Said.said _ _ _ c.in_ok-next.next _ c.in_ok-next.ensures.says (sym c.in_ok-said.ensures)
