-- `tkey::old_names` meets its contract. Assumes nothing.
use native.Mathlib.Omega.{arith}
use Rattle.records.proofs.Parts.{plain_ends}
use Rattle.tkey.proofs.OldLaws.{o_bad, o_half, o_more, o_both}
use Rattle.tkey.proofs.old_names.Goals as goal

pub returns-in_default : goal.returns-in_default
returns-in_default c = o_bad _ _ c.requires _ c.part_of-o.ensures.0 _ _ c.skip_plain.ensures.read _ c.in_default.is

pub returns-in_default-skip_plain : goal.returns-in_default-skip_plain
returns-in_default-skip_plain c =
    o_half _ _ c.requires _ c.part_of-o.ensures.0 _ _ c.skip_plain.ensures.read _ _ c.in-Ok.is _ _ c.skip_plain-2.ensures.read _ c.in_default-skip_plain.is

pub returns-then-end-o : goal.returns-then-end-o
returns-then-end-o c =
    o_more _ _ c.requires _ c.part_of-o.ensures.0 _ _ c.skip_plain.ensures.read _ _ c.in-Ok.is _ _ c.skip_plain-2.ensures.read _ _ c.in-Ok-skip_plain.is c.if-end-o.true

pub overflow_add-result : goal.overflow_add-result
overflow_add-result c = let e = plain_ends _ _ _ _ c.skip_plain-2.ensures.read _ _ c.in-Ok-skip_plain.is in omega arith

pub overflow_sub-result : goal.overflow_sub-result
overflow_sub-result c = (plain_ends _ _ _ _ c.skip_plain-2.ensures.read _ _ c.in-Ok-skip_plain.is).0

pub returns : goal.returns
returns c =
    o_both _ _ c.requires _ c.part_of-o.ensures.0 _ _ c.skip_plain.ensures.read _ _ c.in-Ok.is _ _ c.skip_plain-2.ensures.read _ _ c.in-Ok-skip_plain.is c.if-end-o.false
