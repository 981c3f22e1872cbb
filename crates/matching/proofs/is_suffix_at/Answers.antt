-- `matching::is_suffix_at` meets its contract: what follows the label is read on from there. Assumes nothing.
use mathlib.Core.Path.{sym, ◌∙◌}
use native.Mathlib.Omega.{arith}
use Rattle.matching.proofs.Comparing.{told, own_length, suffix_is, root_suffix}
use Rattle.matching.proofs.is_suffix_at.Goals as goal

pub overflow_add-place : goal.overflow_add-place
overflow_add-place c = omega (arith, (told c.first_label.ensures c.in-Label.is).within)

pub same_rest-requires : goal.same_rest-requires
same_rest-requires c = omega (arith, (told c.first_label.ensures c.in-Label.is).short)

pub returns-in-Nothing : goal.returns-in-Nothing
returns-in-Nothing c = sym (told c.first_label.ensures c.in-Nothing.is _ _)

pub returns-in-Root : goal.returns-in-Root
returns-in-Root c = root_suffix _ ∙ sym (told c.first_label.ensures c.in-Root.is _ _)

pub returns-in-Label : goal.returns-in-Label
returns-in-Label c = let f = told c.first_label.ensures c.in-Label.is in c.same_rest.ensures _ (own_length _ _ _ _ f) ∙ suffix_is _ _ _ _ f _
