-- `capi_listing::tell_listed` meets its contract. Assumes nothing.
use mathlib.Core.Path.{refl}
use Rattle.model.specs.Calls.{DONE}
use Rattle.capi_listing.proofs.tell_listed.Goals as goal

pub returns-in-Ok : goal.returns-in-Ok
unfolding DONE
returns-in-Ok c = rw c.in-Ok.is (record { written = refl; returned = refl })

pub returns-in-Err : goal.returns-in-Err
returns-in-Err c = rw c.in-Err.is (record { written = refl; returned = c.refusal_number.ensures })
