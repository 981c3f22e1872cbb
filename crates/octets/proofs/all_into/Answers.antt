-- `octets::all_into` meets its contract: the tail from the place on is lent to `put_all`. Assumes nothing.
use Prim.Native.Nat.{◌+◌}
use native.Mathlib.Omega.{arith}
use lib.ListN.{length}
use Rattle.octets.proofs.Laws.{wrote_tail}
use borrow.Author.Rules.{rules}
use Rattle.octets.proofs.all_into.Goals as goal

pub returns : goal.returns
returns c =
    let a = c.args in
    let w = c.put_all in
    (search rules, wrote_tail a.s.now a.buf.now w.new.buf a.at (a.at + length a.s.now) w.ensures (omega arith) (omega arith))
