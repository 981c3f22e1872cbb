-- `matching::is_key_name_by_labels` meets its contract: the first label is the serial's and the suffix follows, or it is another name. Assumes nothing.
use mathlib.Core.Path.{sym, ◌∙◌}
use native.Mathlib.Omega.{arith}
use Rattle.matching.proofs.Comparing.{told, own_length, key_then, key_never}
use Rattle.matching.proofs.is_key_name_by_labels.Goals as goal

pub overflow_add-end : goal.overflow_add-end
overflow_add-end c = omega (arith, (told c.first_label.ensures c.in-Label.is).within)

pub slice_bounds-is_label-end : goal.slice_bounds-is_label-end
slice_bounds-is_label-end c = omega (arith, (told c.first_label.ensures c.in-Label.is).within)

pub same_rest-requires : goal.same_rest-requires
same_rest-requires c = omega (arith, (told c.first_label.ensures c.in-Label.is).short)

pub returns-then-is_label : goal.returns-then-is_label
returns-then-is_label c = let f = told c.first_label.ensures c.in-Label.is in c.same_rest.ensures _ (own_length _ _ _ _ f) ∙ key_then _ _ _ _ f _ c.requires _ (sym c.is_label.ensures ∙ c.if-is_label.true)

pub returns-in-Nothing : goal.returns-in-Nothing
returns-in-Nothing c = sym (told c.first_label.ensures c.in-Nothing.is _ _)

pub returns-in-Root : goal.returns-in-Root
returns-in-Root c = c.is_key_name.ensures ∙ sym (told c.first_label.ensures c.in-Root.is _ _)

pub returns-else-is_label : goal.returns-else-is_label
returns-else-is_label c = let f = told c.first_label.ensures c.in-Label.is in key_never _ _ _ _ f _ c.requires _ (sym c.is_label.ensures ∙ c.if-is_label.false)
