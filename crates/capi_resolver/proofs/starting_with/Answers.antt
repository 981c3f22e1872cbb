-- `capi_resolver::starting_with` meets its contract. Assumes nothing.
use Rattle.model.specs.Granted.{starting_with}
use mathlib.Core.Path.{refl}
use Rattle.capi_resolver.proofs.starting_with.Goals as goal

pub returns : goal.returns
unfolding starting_with
returns c = refl
