-- `asking::nothing_asked` meets its contract. Assumes nothing.
use mathlib.Core.Path.{refl}
use native.Mathlib.Omega.{arith}
use Rattle.model.specs.Octets.{part}
use Rattle.model.specs.Inquiries.{unasked_at}
use Rattle.asking.proofs.nothing_asked.Goals as goal

pub returns : goal.returns
unfolding unasked_at part
returns c = λ m. record { says = refl; within = (omega arith, tt) }
