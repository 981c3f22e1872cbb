-- `comparing::walk_all` meets its contract. Assumes nothing.
use native.Mathlib.Omega.{arith}
use Rattle.comparing.proofs.Walking.{walking_starts, walking_ends, walking_differs, walking_stops, walking_on}
use Rattle.comparing.proofs.walk_all.Goals as goal

pub loop-init : goal.loop-init
loop-init g c = walking_starts _ _ _ _ _ _ _ (omega arith)

pub returns-in-Differs : goal.returns-in-Differs
returns-in-Differs g c =
    walking_differs _ _ _ _ _ _ _ _ _ c.loop.invariant (omega arith) _ c.walk_one.ensures _
    c.in-Differs.is

pub returns-in-Ends : goal.returns-in-Ends
returns-in-Ends g c =
    walking_stops _ _ _ _ _ _ _ _ _ c.loop.invariant (omega arith) _ c.walk_one.ensures
    c.in-Ends.is

pub loop-preserved : goal.loop-preserved
loop-preserved g c =
    walking_on _ _ _ _ _ _ _ _ _ c.loop.invariant (omega arith) _ c.walk_one.ensures _ _ c.in-Same.is _ (omega arith)

pub returns : goal.returns
returns g c = walking_ends _ _ _ _ _ _ _ _ _ c.loop.invariant (omega arith)
