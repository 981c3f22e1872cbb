-- `comparing::same_part` meets its contract. Assumes nothing.
use mathlib.Core.Path.{ap₂, ◌∙◌}
use Rattle.model.specs.Compare.{same_octets}
use Rattle.comparing.proofs.same_part.Goals as goal

pub returns : goal.returns
returns c = c.same_octets.ensures ∙ ap₂ same_octets c.part_at-x.ensures c.part_at-y.ensures
