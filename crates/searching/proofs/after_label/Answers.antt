-- `searching::after_label` meets its contract. Assumes nothing.
use native.Mathlib.Omega.{arith}
use Rattle.searching.proofs.Labels.{after_first, after_none}
use Rattle.searching.proofs.after_label.Goals as goal

pub returns-in-Some : goal.returns-in-Some
returns-in-Some c = after_first _ c.in-Some.ensures.value (omega arith)

pub returns-in-None : goal.returns-in-None
returns-in-None c = after_none _ c.in-None.ensures.value
