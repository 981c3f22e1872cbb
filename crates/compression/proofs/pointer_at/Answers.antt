-- `compression::pointer_at` meets its contract: each return rewrites with the tests that led there. Assumes nothing.
use Prim.Native.Nat.{◌+◌}
use native.Mathlib.Omega.{arith}
use borrow.Author.Tests.{le-leb}
use lib.ListN.{length}
use Rattle.model.specs.Names.{pointer_at}
use Rattle.compression.proofs.Steps.{pointer_low, pointer_high, pointer_on}
use Rattle.compression.proofs.pointer_at.Goals as goal

pub returns-then-m-at-le1 : goal.returns-then-m-at-le1
unfolding pointer_at
returns-then-m-at-le1 c =
    let a = c.args in
    simp (le-leb (length a.m.now) (a.at + 1) (omega arith))

pub returns-then-target-lt12 : goal.returns-then-target-lt12
returns-then-target-lt12 c =
    let a = c.args in
    pointer_low a.m.now a.start a.at (omega arith) c.wide.result c.wide-2.result c.wide.ensures.0 c.wide-2.ensures.0 (omega arith)

pub returns-then-start-target : goal.returns-then-start-target
returns-then-start-target c =
    let a = c.args in
    pointer_high a.m.now a.start a.at (omega arith) c.wide.result c.wide-2.result c.wide.ensures.0 c.wide-2.ensures.0 (omega arith) (omega arith)

pub returns : goal.returns
returns c =
    let a = c.args in
    pointer_on a.m.now a.start a.at (omega arith) c.wide.result c.wide-2.result c.wide.ensures.0 c.wide-2.ensures.0 (omega arith) (omega arith)
