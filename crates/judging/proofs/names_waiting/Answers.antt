-- `judging::names_waiting` meets its contract. Assumes nothing.
use Rattle.std.proofs.Common.{sym, refl, ◌∙◌}
use Rattle.judging.proofs.KeyLaws.{waiting_fits}
use Rattle.judging.proofs.names_waiting.Goals as goal

pub is_named_at-requires : goal.is_named_at-requires
is_named_at-requires c =
    (c.requires.0, waiting_fits c.args.p c.requires.1 _ (sym c.waiting_of.ensures ∙ c.in-Some.is))

pub returns-in-None : goal.returns-in-None
returns-in-None c = rw (sym c.waiting_of.ensures ∙ c.in-None.is) refl

pub returns-in-Some : goal.returns-in-Some
returns-in-Some c = rw (sym c.waiting_of.ensures ∙ c.in-Some.is) c.is_named_at.ensures
