-- `messages::sign_on` meets its contract. Assumes nothing.
use mathlib.Core.Path.{◌∙◌}
use native.Mathlib.Omega.{arith}
use Rattle.messages.proofs.Counts.{behind, first}
use Rattle.messages.proofs.sign_on.Goals as goal

pub returns-then-h-gt0 : goal.returns-then-h-gt0
returns-then-h-gt0 c =
    let a = c.args in
    behind a.h.section a.h.place a.section a.place a.h.count a.hit c.if-h-gt0.true

pub returns : goal.returns
returns c =
    let a = c.args in
    c.tally.ensures ∙ first a.h.section a.h.place a.section a.place a.h.count a.hit (omega arith)
