-- `step::effect_of` meets its contract. Assumes nothing.
use mathlib.Core.Path.{◌∙◌, ◌≡◌}
use mir.Val.{of_z, to_z}
use mir.Syntax.{w64}
use Rattle.model.specs.Judging.{changed}
use Rattle.model.specs.Replies.{error_of, skew_of}
use Rattle.pairs.proofs.Fit.{renewed_fits}
use Rattle.step.specs.Steps.{effect_of}
use borrow.Author.Rules.{rules}
use Rattle.step.proofs.effect_of.Goals as goal

pub returns-in-Unsigned : goal.returns-in-Unsigned
unfolding effect_of error_of skew_of changed
returns-in-Unsigned c = c.same.ensures ∙ simp c.in-Unsigned.is

pub returns-in-Refused : goal.returns-in-Refused
unfolding effect_of error_of skew_of changed
returns-in-Refused c = c.same-in-Refused.ensures ∙ simp c.in-Refused.is

pub returns-in-Passed : goal.returns-in-Passed
unfolding effect_of error_of skew_of changed
returns-in-Passed c =
    let s : to_z w64 (of_z w64 c.in-Passed.skew) ≡ c.in-Passed.skew = search rules in
    c.same-in-Passed.ensures ∙ simp (s, c.in-Passed.is)

pub returns-in-Failed : goal.returns-in-Failed
unfolding effect_of error_of skew_of changed
returns-in-Failed c = c.same-in-Failed.ensures ∙ simp c.in-Failed.is

pub returns-in-Renews : goal.returns-in-Renews
unfolding effect_of error_of skew_of changed
returns-in-Renews c = c.changed.ensures ∙ simp (c.renew.ensures ∙ renewed_fits c.args.p c.args.time _ c.requires, c.in-Renews.is)

pub returns-in-Adopts : goal.returns-in-Adopts
unfolding effect_of error_of skew_of changed
returns-in-Adopts c = c.changed-in-Adopts.ensures ∙ simp (c.adopt.ensures, c.in-Adopts.is)

pub returns-in-Readopts : goal.returns-in-Readopts
unfolding effect_of error_of skew_of changed
returns-in-Readopts c = c.same-in-Readopts.ensures ∙ simp c.in-Readopts.is

pub returns-in-Deletes : goal.returns-in-Deletes
unfolding effect_of error_of skew_of changed
returns-in-Deletes c = c.changed-in-Deletes.ensures ∙ simp (c.delete.ensures, c.in-Deletes.is)

pub returns-in-Withdraws : goal.returns-in-Withdraws
unfolding effect_of error_of skew_of changed
returns-in-Withdraws c = c.changed-in-Withdraws.ensures ∙ simp (c.withdraw.ensures, c.in-Withdraws.is)
