-- `judging::adoption_of` meets its contract. Assumes nothing.
use Rattle.std.proofs.Common.{sym, refl, ◌∙◌}
use Rattle.model.specs.Judging.{bad_key, bad_name, adoption_of}
use Rattle.judging.proofs.adoption_of.Goals as goal

pub returns-then-is_key_at : goal.returns-then-is_key_at
unfolding adoption_of
returns-then-is_key_at c =
    let adopted = sym (rw c.part_of-algorithm.ensures.0 at c.is_key_at.ensures) ∙ c.if-is_key_at.true in
    rw adopted refl

pub returns-then-is_old_key : goal.returns-then-is_old_key
unfolding adoption_of
returns-then-is_old_key c =
    let adopted = sym (rw c.part_of-algorithm.ensures.0 at c.is_key_at.ensures) ∙ c.if-is_key_at.false in
    let waiting = sym (rw c.part_of-algorithm.ensures.0 at c.is_waiting.ensures) ∙ c.if-is_waiting.true in
    let old = sym c.is_old_key.ensures ∙ c.if-is_old_key.true in
    rw (adopted, waiting, old) refl

pub returns-else-is_old_key : goal.returns-else-is_old_key
unfolding adoption_of bad_key
returns-else-is_old_key c =
    let adopted = sym (rw c.part_of-algorithm.ensures.0 at c.is_key_at.ensures) ∙ c.if-is_key_at.false in
    let waiting = sym (rw c.part_of-algorithm.ensures.0 at c.is_waiting.ensures) ∙ c.if-is_waiting.true in
    let old = sym c.is_old_key.ensures ∙ c.if-is_old_key.false in
    rw (adopted, waiting, old) refl

pub returns-else-is_waiting : goal.returns-else-is_waiting
unfolding adoption_of bad_name
returns-else-is_waiting c =
    let adopted = sym (rw c.part_of-algorithm.ensures.0 at c.is_key_at.ensures) ∙ c.if-is_key_at.false in
    let waiting = sym (rw c.part_of-algorithm.ensures.0 at c.is_waiting.ensures) ∙ c.if-is_waiting.false in
    rw (adopted, waiting) refl
