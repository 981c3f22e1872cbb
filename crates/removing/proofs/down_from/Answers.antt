-- `removing::down_from` meets its contract. Assumes nothing.
use mathlib.Core.Path.{sym}
use Rattle.removing.proofs.Moving.{down_low, down_high}
use Rattle.removing.proofs.down_from.Goals as goal

pub returns-then-gap-x : goal.returns-then-gap-x
returns-then-gap-x c = sym (down_high c.if-gap-x.true)

pub returns-else-gap-x : goal.returns-else-gap-x
returns-else-gap-x c = sym (down_low c.if-gap-x.false)
