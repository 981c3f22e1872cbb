-- `granted::data_in` meets its contract. Assumes nothing.
use native.Mathlib.Omega.{arith}
use Rattle.granted.proofs.Laws.{in_ill, in_fits, in_name, in_mode, in_error, in_unknown, in_known}
use Rattle.granted.proofs.data_in.Goals as goal

pub overflow_add-next : goal.overflow_add-next
overflow_add-next c = let f = in_fits _ _ c.requires _ c.part_of-d.ensures.0 _ c.layout_of.ensures _ _ _ c.in_ok-next.was in omega arith

pub u16_at-requires : goal.u16_at-requires
u16_at-requires c = let f = in_fits _ _ c.requires _ c.part_of-d.ensures.0 _ c.layout_of.ensures _ _ _ c.in_ok-next.was in omega arith

pub returns-then-u16_at-ne4098 : goal.returns-then-u16_at-ne4098
returns-then-u16_at-ne4098 c = in_mode _ _ c.requires _ c.part_of-d.ensures.0 _ c.layout_of.ensures _ _ _ c.in_ok-next.was _ c.u16_at.ensures.0 c.if-u16_at-ne4098.true

pub overflow_add-next-2 : goal.overflow_add-next-2
overflow_add-next-2 c = let f = in_fits _ _ c.requires _ c.part_of-d.ensures.0 _ c.layout_of.ensures _ _ _ c.in_ok-next.was in omega arith

pub u16_at-requires-2 : goal.u16_at-requires-2
u16_at-requires-2 c = let f = in_fits _ _ c.requires _ c.part_of-d.ensures.0 _ c.layout_of.ensures _ _ _ c.in_ok-next.was in omega arith

pub returns-then-u16_at-ne0 : goal.returns-then-u16_at-ne0
returns-then-u16_at-ne0 c = in_error _ _ c.requires _ c.part_of-d.ensures.0 _ c.layout_of.ensures _ _ _ c.in_ok-next.was _ c.u16_at.ensures.0 c.if-u16_at-ne4098.false _ c.u16_at-2.ensures.0 c.if-u16_at-ne0.true

pub part_of-requires : goal.part_of-requires
part_of-requires c = let f = in_name _ _ c.requires _ c.part_of-d.ensures.0 _ c.layout_of.ensures _ _ _ c.in_ok-next.was in omega arith

pub overflow_add-result : goal.overflow_add-result
overflow_add-result c = let f = in_name _ _ c.requires _ c.part_of-d.ensures.0 _ c.layout_of.ensures _ _ _ c.in_ok-next.was in omega arith

pub returns-in_err-next : goal.returns-in_err-next
returns-in_err-next c = rw c.from_residual.ensures (in_ill _ _ c.requires _ c.part_of-d.ensures.0 _ c.layout_of.ensures c.in_err-next.was)

pub returns-in_err-algorithm_named : goal.returns-in_err-algorithm_named
returns-in_err-algorithm_named c =
    rw c.from_residual-in_err-algorithm_named.ensures
    (in_unknown _ _ c.requires _ c.part_of-d.ensures.0 _ c.layout_of.ensures _ _ _ c.in_ok-next.was _ c.u16_at.ensures.0 c.if-u16_at-ne4098.false _ c.u16_at-2.ensures.0 c.if-u16_at-ne0.false _
    c.part_of.ensures.0 _ c.algorithm_named.ensures c.in_err-algorithm_named.was)

pub returns : goal.returns
returns c =
    in_known _ _ c.requires _ c.part_of-d.ensures.0 _ c.layout_of.ensures _ _ _ c.in_ok-next.was _ c.u16_at.ensures.0 c.if-u16_at-ne4098.false _ c.u16_at-2.ensures.0 c.if-u16_at-ne0.false _
    c.part_of.ensures.0 _ c.algorithm_named.ensures _ c.in_ok-algorithm_named.was
