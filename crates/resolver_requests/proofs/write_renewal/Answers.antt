-- `resolver_requests::write_renewal` meets its contract. Assumes nothing.
use mathlib.Core.Path.{refl}
use Rattle.resolver_requests.proofs.Sent.{by_length, by_refusal}
use Rattle.resolver_requests.proofs.write_renewal.Goals as goal

pub returns-in-Ok : goal.returns-in-Ok
returns-in-Ok c = by_length _ _ _ _ _ _ _ c.renewal_into.ensures _ c.in-Ok.is _ refl _ c.opened-after.ensures _ c.written.ensures

pub returns-in-Err : goal.returns-in-Err
returns-in-Err c = by_refusal _ _ _ _ _ _ _ c.renewal_into.ensures _ c.in-Err.is _ c.refused.ensures
