-- `capi::luffcringle_look` meets its contract. Assumes nothing.
use mathlib.Core.Path.{ap}
use Rattle.model.specs.Calls.{Result}
use Rattle.capi.proofs.Laws.{told_as}
use Rattle.capi.proofs.luffcringle_look.Goals as goal

pub returns : goal.returns
returns c = told_as (ap (λ (x : Result). x.outcome.answer) c.look-a.ensures) c.tell.ensures
