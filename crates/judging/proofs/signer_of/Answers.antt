-- `judging::signer_of` meets its contract. Assumes nothing.
use Rattle.std.proofs.Common.{sym, refl, ◌∙◌}
use Rattle.model.specs.Judging.{signer_of}
use Rattle.judging.proofs.KeyLaws.{adopted_fits}
use Rattle.judging.proofs.signer_of.Goals as goal

pub is_key_at-requires : goal.is_key_at-requires
is_key_at-requires c =
    let key = sym c.adopted_of.ensures ∙ c.in-Some.is in
    (c.requires.2, adopted_fits c.args.p c.requires.1 _ key)

pub returns-in-None : goal.returns-in-None
unfolding signer_of
returns-in-None c =
    let key = sym c.adopted_of.ensures ∙ c.in-None.is in
    (λ number. rw key refl, tt)

pub returns-then-is_key_at : goal.returns-then-is_key_at
unfolding signer_of
returns-then-is_key_at c =
    let key = sym c.adopted_of.ensures ∙ c.in-Some.is in
    let own = sym (rw c.part_of-algorithm.ensures.0 at c.is_key_at.ensures) ∙ c.if-is_key_at.true in
    (λ number. rw (key, own) refl, adopted_fits c.args.p c.requires.1 _ key)

pub returns-else-is_key_at : goal.returns-else-is_key_at
unfolding signer_of
returns-else-is_key_at c =
    let key = sym c.adopted_of.ensures ∙ c.in-Some.is in
    let own = sym (rw c.part_of-algorithm.ensures.0 at c.is_key_at.ensures) ∙ c.if-is_key_at.false in
    (λ number. rw (key, own) refl, tt)
