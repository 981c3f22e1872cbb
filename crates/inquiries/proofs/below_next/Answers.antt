-- `inquiries::below_next` meets its contract. Assumes nothing.
use mathlib.Core.Path.{refl}
use Rattle.model.specs.Inquiries.{below_next}
use Rattle.inquiries.proofs.below_next.Goals as goal

pub returns : goal.returns
unfolding below_next
returns c = refl
