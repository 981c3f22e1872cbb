-- `removing::renumber` meets its contract. Assumes nothing.
use mathlib.Core.Path.{◌≡◌}
use native.Mathlib.Omega.{arith}
use Rattle.removing.proofs.Moving.{renumbered_none, renumbered_more}
use Rattle.removing.proofs.renumber.Goals as goal

pub loop-q-init : goal.loop-q-init
loop-q-init c = renumbered_none _ _

pub loop-q-preserved : goal.loop-q-preserved
loop-q-preserved c = renumbered_more (omega arith) c.down_from.ensures c.loop-q.invariant

pub returns : goal.returns
returns c =
    let l = c.loop-q in
    let e : l.q ≡ c.args.n = omega arith in
    rw e at l.invariant
