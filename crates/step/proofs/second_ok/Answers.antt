-- `step::second_ok` meets its contract. Assumes nothing.
use mathlib.Core.Path.{refl, sym, ◌∙◌}
use Rattle.model.specs.Replies.{second_ok}
use Rattle.step.proofs.second_ok.Goals as goal

pub returns-in-Unsigned : goal.returns-in-Unsigned
unfolding second_ok
returns-in-Unsigned c = rw c.in-Unsigned.is refl

pub returns-in-Refused : goal.returns-in-Refused
unfolding second_ok
returns-in-Refused c = rw c.in-Refused.is refl

pub returns-in-Passed : goal.returns-in-Passed
unfolding second_ok
returns-in-Passed c = rw c.in-Passed.is refl

pub returns-in-Failed : goal.returns-in-Failed
unfolding second_ok
returns-in-Failed c = rw c.in-Failed.is refl

pub returns-then-lends_record : goal.returns-then-lends_record
unfolding second_ok
returns-then-lends_record c = rw (c.in-Renews.is, sym c.lends_record.ensures ∙ c.if-lends_record.true) c.is_key_record.ensures

pub returns-else-lends_record : goal.returns-else-lends_record
unfolding second_ok
returns-else-lends_record c = rw (c.in-Renews.is, sym c.lends_record.ensures ∙ c.if-lends_record.false) refl

pub returns-in-Adopts : goal.returns-in-Adopts
unfolding second_ok
returns-in-Adopts c = rw c.in-Adopts.is refl

pub returns-in-Readopts : goal.returns-in-Readopts
unfolding second_ok
returns-in-Readopts c = rw c.in-Readopts.is refl

pub returns-in-Deletes : goal.returns-in-Deletes
unfolding second_ok
returns-in-Deletes c = rw c.in-Deletes.is refl

pub returns-in-Withdraws : goal.returns-in-Withdraws
unfolding second_ok
returns-in-Withdraws c = rw c.in-Withdraws.is refl
