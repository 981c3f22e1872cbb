-- `judging::offer_serves` meets its contract. Assumes nothing.
use Rattle.std.proofs.Common.{refl}
use Rattle.model.specs.Judging.{offer_serves}
use Rattle.judging.proofs.offer_serves.Goals as goal

pub returns-in-DiffieHellman : goal.returns-in-DiffieHellman
unfolding offer_serves
returns-in-DiffieHellman c = λ octets is. rw (c.in-DiffieHellman.is, is) refl

pub returns-in-ServerAssignment : goal.returns-in-ServerAssignment
unfolding offer_serves
returns-in-ServerAssignment c = λ octets is. rw (c.in-ServerAssignment.is, is) refl

pub returns-in-ResolverAssignment : goal.returns-in-ResolverAssignment
unfolding offer_serves
returns-in-ResolverAssignment c = λ octets is. rw c.in-ResolverAssignment.is refl
