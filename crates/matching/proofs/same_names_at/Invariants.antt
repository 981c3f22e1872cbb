-- `matching::same_names_at` meets its contract: the names are the same where what is left of each is. Assumes nothing.
use Prim.Native.Nat.{◌+◌, ◌-◌}
use Rattle.matching.proofs.Pairwise.{Both}
use Rattle.matching.proofs.same_names_at.Given as goal

abbrev pub invariant-loop-k : goal.invariant-loop-k
invariant-loop-k l = Both l.m l.n l.at l.to l.start l.place l.len l.first l.there

abbrev pub decreases-loop-k : goal.decreases-loop-k
decreases-loop-k l = l.start + (255 - l.len)
