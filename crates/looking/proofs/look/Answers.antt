-- `looking::look` meets its contract. Assumes nothing.
use mathlib.Core.Path.{sym, ◌∙◌}
use Rattle.looking.proofs.Laws.{sound, look_refused, look_passes, refuse_all}
use Rattle.looking.proofs.look.Goals as goal

pub returns-then-not-rules_ok : goal.returns-then-not-rules_ok
returns-then-not-rules_ok c = refuse_all _ _ _ c.answered.ensures (look_refused _ _ _ c.rules_ok.ensures c.if-not-rules_ok.true)

pub look_passed-requires : goal.look_passed-requires
look_passed-requires c = sound _ _ _ c.rules_ok.ensures c.if-not-rules_ok.false

pub returns : goal.returns
returns c = c.look_passed.ensures ∙ sym (look_passes _ _ _ c.rules_ok.ensures c.if-not-rules_ok.false)
