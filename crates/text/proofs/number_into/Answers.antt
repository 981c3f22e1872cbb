-- `text::number_into` meets its contract. Assumes nothing.
use native.Mathlib.Omega.{arith}
use Rattle.model.proofs.NameLaws.{decimal_short}
use Rattle.octets.proofs.Laws.{wrote_as}
use Rattle.text.proofs.Laws.{numeral_zero, numeral_some}
use borrow.Author.Rules.{rules}
use Rattle.text.proofs.number_into.Goals as goal

pub returns-then-n-eq0 : goal.returns-then-n-eq0
returns-then-n-eq0 c = (search rules, wrote_as (numeral_zero c.if-n-eq0.true) c.u8_into.ensures.1)

pub decimal_into-requires : goal.decimal_into-requires
decimal_into-requires c = omega (arith, decimal_short 20 c.args.n (omega arith))

pub returns : goal.returns
returns c =
    let n = c.args.n in
    (omega (arith, decimal_short 20 n (omega arith)), wrote_as (numeral_some n c.if-n-eq0.false) c.decimal_into.ensures)
