-- `resolver_requests::write_adoption` meets its contract. Assumes nothing.
use Rattle.resolver_requests.proofs.Sent.{by_length, by_refusal}
use Rattle.resolver_requests.proofs.write_adoption.Goals as goal

pub returns-in-Ok : goal.returns-in-Ok
returns-in-Ok c = by_length _ _ _ _ _ _ _ c.adoption_into.ensures _ c.in-Ok.is _ c.signer_of.ensures _ c.opened-after.ensures _ c.written.ensures

pub returns-in-Err : goal.returns-in-Err
returns-in-Err c = by_refusal _ _ _ _ _ _ _ c.adoption_into.ensures _ c.in-Err.is _ c.refused.ensures
