-- `signing::counted_into` meets its contract. Assumes nothing.
use native.Mathlib.Omega.{arith}
use Rattle.octets.proofs.Laws.{wrote_as}
use Rattle.signing.proofs.Ends.{counted_octets_lem}
use borrow.Author.Rules.{rules}
use Rattle.signing.proofs.counted_into.Goals as goal

pub returns : goal.returns
returns c =
    let m = c.args.m.now in
    (search rules, wrote_as (counted_octets_lem m _ (omega arith)) c.counted_into.ensures.1)
