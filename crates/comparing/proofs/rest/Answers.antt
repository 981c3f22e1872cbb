-- `comparing::rest` meets its contract. Assumes nothing.
use Prim.Native.Nat.{◌+◌}
use Rattle.comparing.proofs.Laws.{rest_same, rest_other}
use Rattle.comparing.proofs.rest.Goals as goal

pub returns-then-same_octets : goal.returns-then-same_octets
returns-then-same_octets c =
    rest_same c.args.c.now c.args.d.now c.args.at (c.args.base + c.args.at) _ c.same_octets.ensures
    c.if-same_octets.true

pub returns : goal.returns
returns c =
    rest_other c.args.c.now c.args.d.now c.args.at (c.args.base + c.args.at) _ c.same_octets.ensures
    c.if-same_octets.false
