-- `compression::label_at` meets its contract: each return rewrites with the tests that led there. Assumes nothing.
use Prim.Native.Nat.{◌+◌}
use native.Mathlib.Omega.{arith}
use borrow.Author.Tests.{lt-ltb, le-ltb, le-leb, lt-leb}
use lib.ListN.{length}
use Rattle.model.specs.Names.{label_at}
use Rattle.compression.proofs.label_at.Goals as goal

pub returns-then-used-n-gt255 : goal.returns-then-used-n-gt255
unfolding label_at
returns-then-used-n-gt255 c =
    let a = c.args in
    simp (lt-ltb 255 (a.used + a.n + 2) (omega arith))

pub returns-then-m-at : goal.returns-then-m-at
unfolding label_at
returns-then-m-at c =
    let a = c.args in
    simp (le-ltb 255 (a.used + a.n + 2) (omega arith), le-leb (length a.m.now) (a.at + a.n) (omega arith))

pub returns : goal.returns
unfolding label_at
returns c =
    let a = c.args in
    simp (le-ltb 255 (a.used + a.n + 2) (omega arith), lt-leb (length a.m.now) (a.at + a.n) (omega arith))
