use mathlib.Core.Path.{refl}
use Rattle.model.proofs.Forward.{key_added}
use Rattle.entries.proofs.key_added.Goals as goal

pub returns-in-Empty-true : goal.returns-in-Empty-true
unfolding key_added
returns-in-Empty-true c = rw (c.in-Empty-true.is-0, c.in-Empty-true.is-1) refl

pub returns-in-Adopted-false : goal.returns-in-Adopted-false
unfolding key_added
returns-in-Adopted-false c = rw (c.in-Adopted-false.is-0, c.in-Adopted-false.is-1) refl

pub returns-in_default : goal.returns-in_default
unfolding key_added
returns-in_default c = rw (c.in_default.is-0, c.in_default.is-1) refl

pub returns-in_default-2 : goal.returns-in_default-2
unfolding key_added
returns-in_default-2 c = rw (c.in_default.is-0, c.in_default.is-1) refl

pub returns-in_default-3 : goal.returns-in_default-3
unfolding key_added
returns-in_default-3 c = rw c.in_default.is-0 refl
