-- `capi_listing::tell_mending` meets its contract. Assumes nothing.
use mathlib.Core.Path.{refl}
use Rattle.capi_listing.proofs.tell_mending.Goals as goal

pub returns : goal.returns
returns c = record { written = refl; returned = refl }
