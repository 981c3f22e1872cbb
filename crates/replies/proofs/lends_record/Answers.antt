-- `replies::lends_record` meets its contract. Assumes nothing.
use mathlib.Core.Path.{refl}
use Rattle.model.specs.Replies.{lends}
use Rattle.replies.proofs.lends_record.Goals as goal

pub returns-in-DiffieHellman : goal.returns-in-DiffieHellman
unfolding lends
returns-in-DiffieHellman c = rw c.in-DiffieHellman.is refl

pub returns-in-ServerAssignment : goal.returns-in-ServerAssignment
unfolding lends
returns-in-ServerAssignment c = rw c.in-ServerAssignment.is refl

pub returns-in-ResolverAssignment : goal.returns-in-ResolverAssignment
unfolding lends
returns-in-ResolverAssignment c = rw c.in-ResolverAssignment.is refl
