-- `replies::takes_offer` meets its contract. Assumes nothing.
use mathlib.Core.Path.{refl}
use Rattle.replies.specs.Parts.{takes_offer}
use Rattle.replies.proofs.takes_offer.Goals as goal

pub returns-in-DiffieHellman : goal.returns-in-DiffieHellman
unfolding takes_offer
returns-in-DiffieHellman c = rw c.in-DiffieHellman.is refl

pub returns-in-ServerAssignment : goal.returns-in-ServerAssignment
unfolding takes_offer
returns-in-ServerAssignment c = rw c.in-ServerAssignment.is refl

pub returns-in-ResolverAssignment : goal.returns-in-ResolverAssignment
unfolding takes_offer
returns-in-ResolverAssignment c = rw c.in-ResolverAssignment.is refl
