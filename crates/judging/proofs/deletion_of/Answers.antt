-- `judging::deletion_of` meets its contract. Assumes nothing.
use Rattle.std.proofs.Common.{sym, refl, ◌∙◌}
use Rattle.model.specs.Judging.{bad_name, deletion_of}
use Rattle.judging.proofs.deletion_of.Goals as goal

pub returns-then-is_named_at : goal.returns-then-is_named_at
unfolding deletion_of
returns-then-is_named_at c =
    λ k is.
    let adopted = sym c.is_named_at.ensures ∙ c.if-is_named_at.true in
    rw (is, adopted) refl

pub returns-then-names_waiting : goal.returns-then-names_waiting
unfolding deletion_of
returns-then-names_waiting c =
    λ k is.
    let adopted = sym c.is_named_at.ensures ∙ c.if-is_named_at.false in
    let waiting = sym c.names_waiting.ensures ∙ c.if-names_waiting.true in
    rw (is, adopted, waiting) refl

pub returns-else-names_waiting : goal.returns-else-names_waiting
unfolding deletion_of bad_name
returns-else-names_waiting c =
    λ k is.
    let adopted = sym c.is_named_at.ensures ∙ c.if-is_named_at.false in
    let waiting = sym c.names_waiting.ensures ∙ c.if-names_waiting.false in
    rw (is, adopted, waiting) refl
