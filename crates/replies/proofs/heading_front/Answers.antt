-- `replies::heading_front` meets its contract. Assumes nothing.
use Rattle.octets.proofs.Laws.{then, wrote_as}
use mathlib.Core.Path.{ap}
use Rattle.model.specs.Octets.{be16}
use Rattle.replies.specs.Parts.{heading_front}
use borrow.Author.Rules.{rules}
use Rattle.replies.proofs.heading_front.Goals as goal

pub returns : goal.returns
unfolding heading_front
returns c =
    let w₁ = wrote_as (ap be16 c.u16_at.ensures.0) c.u16_into-a.ensures.1 in
    let w₂ = wrote_as c.flags_of.ensures.1 c.u16_into-b.ensures.1 in
    let w₃ = wrote_as (ap be16 c.u16_at-2.ensures.0) c.u16_into.ensures.1 in
    (search rules, then w₁ (then w₂ w₃))
