-- `capi_listing::refusal_number` meets its contract. Assumes nothing.
use mathlib.Core.Path.{refl}
use Rattle.model.specs.Calls.{TABLE, ROOM}
use Rattle.capi_listing.proofs.refusal_number.Goals as goal

pub returns-in-Broken : goal.returns-in-Broken
unfolding TABLE
returns-in-Broken c = rw c.in-Broken.is refl

pub returns-in-Long : goal.returns-in-Long
unfolding ROOM
returns-in-Long c = rw c.in-Long.is refl
