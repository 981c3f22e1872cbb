-- `removing::renumber` meets its contract. The loop's invariant: the rows at the first q places are done. Assumes nothing.
use Rattle.removing.specs.Remove.{Renumbered}
use Rattle.removing.proofs.renumber.Given as goal

abbrev pub invariant-loop-q : goal.invariant-loop-q
invariant-loop-q l = Renumbered l.row l.q l.initial.w l.w
