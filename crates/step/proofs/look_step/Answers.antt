-- `step::look_step` meets its contract. Assumes nothing.
use mathlib.Core.Path.{ap, ◌∙◌}
use Rattle.std.specs.Prelude.{Err}
use Rattle.judging.specs.Judged.{holder_of}
use Rattle.step.proofs.StepLaws.{who_fits, whole_read, look_size, look_format, look_response, look_found}
use Rattle.step.specs.declared.Step.{Step}
use Rattle.step.proofs.look_step.Goals as goal

pub returns-then-c : goal.returns-then-c
returns-then-c c = let a = c.args in look_response (holder_of a.who a.suffix.now) _ _ c.requires.0 _ _ c.in-Ok.is c.if-c.true (ap (λ (s : Step). s.answer) c.refused-then-c.ensures)

pub found-requires : goal.found-requires
found-requires c = ((whole_read c.requires.0 c.in-Ok.is).signer_fits, who_fits c.args.who c.requires.1)

pub returns-in-Size : goal.returns-in-Size
returns-in-Size c = let a = c.args in look_size (holder_of a.who a.suffix.now) _ _ c.requires.0 _ (c.in-Err.is ∙ ap Err c.in-Size.is) (ap (λ (s : Step). s.answer) c.refused.ensures)

pub returns-in-Broken : goal.returns-in-Broken
returns-in-Broken c = let a = c.args in look_format (holder_of a.who a.suffix.now) _ _ c.requires.0 _ _ (c.in-Err.is ∙ ap Err c.in-Broken.is) (ap (λ (s : Step). s.answer) c.refused-in-Broken.ensures)

pub returns-else-c : goal.returns-else-c
returns-else-c c = let a = c.args in look_found (holder_of a.who a.suffix.now) _ _ c.requires.0 _ _ c.in-Ok.is c.if-c.false c.found.ensures
