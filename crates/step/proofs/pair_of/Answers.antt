-- `step::pair_of` meets its contract. Assumes nothing.
use Rattle.model.specs.Judging.{held_pair}
use Rattle.model.specs.Tables.{no_pair}
use Rattle.step.proofs.pair_of.Goals as goal

pub returns-in-None : goal.returns-in-None
unfolding held_pair no_pair
returns-in-None c = λ suffix. simp c.in-None.is

pub returns-in-Some : goal.returns-in-Some
unfolding held_pair
returns-in-Some c = λ suffix. simp c.in-Some.is
