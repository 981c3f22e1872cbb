-- `compression::skip` meets its contract: the whole name is what is left from here. Assumes nothing.
use Prim.Native.Nat.{ℕ, ◌-◌, ◌<◌}
use mathlib.Core.List.{List, []}
use Rattle.model.specs.Octets.{Reading}
use Rattle.model.specs.Names.{read_on}
use Rattle.compression.proofs.Skipping.{Going}
use Rattle.compression.proofs.skip.Given as goal

abbrev pub invariant-loop-place : goal.invariant-loop-place
invariant-loop-place l = (l.len < 255) × Going l.m (λ (r : Reading (List ℕ)). r) (read_on l.m l.first l.at []) l.first l.place l.len

abbrev pub decreases-loop-place : goal.decreases-loop-place
decreases-loop-place l = 255 - l.len
