-- `comparing::tkey_end` meets its contract. Assumes nothing.
use mathlib.Core.Path.{sym, ◌∙◌}
use native.Mathlib.Omega.{arith}
use Rattle.comparing.proofs.DataLaws.{end_cut, end_key, end_size, end_other}
use Rattle.comparing.proofs.tkey_end.Goals as goal

pub returns-then-c-from : goal.returns-then-c-from
returns-then-c-from c = end_cut _ _ _ _ _ c.requires.1 (omega arith) _ c.rest.ensures

pub returns-then-not-same_part : goal.returns-then-not-same_part
returns-then-not-same_part c = end_key _ _ _ _ _ c.requires.1 (omega arith) (sym c.same_part.ensures ∙ c.if-not-same_part.true)

pub returns-then-not-same_part-2 : goal.returns-then-not-same_part-2
returns-then-not-same_part-2 c =
    end_size _ _ _ _ _ c.requires.1 (omega arith) (sym c.same_part.ensures ∙ c.if-not-same_part.false)
    (sym c.same_part-2.ensures ∙ c.if-not-same_part-2.true)

pub returns : goal.returns
returns c =
    end_other _ _ _ _ _ c.requires.1 (omega arith) (sym c.same_part.ensures ∙ c.if-not-same_part.false)
    (sym c.same_part-2.ensures ∙ c.if-not-same_part-2.false) _ c.rest-2.ensures
