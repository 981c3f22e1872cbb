-- `step::suffix_of` meets its contract. Assumes nothing.
use Rattle.model.specs.Judging.{held_suffix}
use Rattle.step.proofs.suffix_of.Goals as goal

pub returns-in-None : goal.returns-in-None
unfolding held_suffix
returns-in-None c = simp c.in-None.is

pub returns-in-Some : goal.returns-in-Some
unfolding held_suffix
returns-in-Some c = simp c.in-Some.is
