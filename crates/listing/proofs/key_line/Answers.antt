-- `listing::key_line` meets its contract: the word, the state, the serial, the algorithm and three times. Assumes nothing.
use Rattle.model.specs.Text.{line_of, parted_by}
use Rattle.model.specs.Listing.{tabbed, key_line}
use Rattle.octets.proofs.Laws.{then}
use borrow.Author.Rules.{rules}
use Rattle.listing.proofs.key_line.Goals as goal

pub returns : goal.returns
unfolding key_line tabbed line_of parted_by
returns c =
    let w₁ = c.all_into-next.ensures.1 in
    let w₂ = c.all_into-next-2.ensures.1 in
    let w₃ = c.number_field-next.ensures.1 in
    let w₄ = c.algorithm_field-next.ensures.1 in
    let w₅ = c.line_end.ensures.1 in
    (search rules, then w₁ (then w₂ (then w₃ (then w₄ w₅))))
