-- `comparing::same_octets` meets its contract. Assumes nothing.
use mathlib.Core.Path.{◌∙◌}
use Rattle.comparing.proofs.Laws.{octets_test}
use Rattle.comparing.proofs.same_octets.Goals as goal

pub returns : goal.returns
returns c = c.eq.ensures ∙ octets_test c.args.a.now c.args.b.now
