-- `text::octet_into` meets its contract: the high digit, and then the low one. Assumes nothing.
use Rattle.model.specs.Text.{hex_of}
use Rattle.octets.proofs.Laws.{then}
use borrow.Author.Rules.{rules}
use Rattle.text.proofs.octet_into.Goals as goal

pub returns : goal.returns
unfolding hex_of
returns c =
    let w = then c.u8_into-next.ensures.1 c.u8_into.ensures.1 in
    (search rules, rw (c.hex_digit.ensures, c.hex_digit-2.ensures) at w)
