-- `listing::line_end` meets its contract: three numbers and a newline. Assumes nothing.
use Rattle.model.specs.Text.{parted_by}
use Rattle.octets.proofs.Laws.{then}
use borrow.Author.Rules.{rules}
use Rattle.listing.proofs.line_end.Goals as goal

pub returns : goal.returns
unfolding parted_by
returns c =
    let w₁ = c.number_field-next.ensures.1 in
    let w₂ = c.number_field-next-2.ensures.1 in
    let w₃ = c.number_field-next-3.ensures.1 in
    let w₄ = c.u8_into.ensures.1 in
    (search rules, then w₁ (then w₂ (then w₃ w₄)))
