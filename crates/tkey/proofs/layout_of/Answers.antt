-- `tkey::layout_of` meets its contract. Assumes nothing.
use native.Mathlib.Omega.{arith}
use Rattle.tkey.proofs.LayoutLaws.{l_bad, l_within, l_cut, l_short, l_odd, l_fields}
use Rattle.tkey.proofs.layout_of.Goals as goal

pub overflow_sub-d : goal.overflow_sub-d
overflow_sub-d c = l_within _ _ _ c.skip_plain.ensures.read _ _ c.in-Ok.is

pub returns-then-d-next-lt14 : goal.returns-then-d-next-lt14
returns-then-d-next-lt14 c = l_cut _ _ _ c.skip_plain.ensures.read _ _ c.in-Ok.is (omega arith)

pub returns-then-d-next : goal.returns-then-d-next
returns-then-d-next c =
    l_short _ _ _ c.skip_plain.ensures.read _ _ c.in-Ok.is
    (omega arith) _ c.u16_at-count.ensures (omega arith)

pub returns-then-d-tail-lt2 : goal.returns-then-d-tail-lt2
returns-then-d-tail-lt2 c =
    l_short _ _ _ c.skip_plain.ensures.read _ _
    c.in-Ok.is (omega arith) _
    c.u16_at-count.ensures (omega arith)

pub returns-then-d-tail : goal.returns-then-d-tail
returns-then-d-tail c =
    l_odd _ _ _ c.skip_plain.ensures.read _ _
    c.in-Ok.is (omega arith) _
    c.u16_at-count.ensures (omega arith) _ c.u16_at-size.ensures (λ e. c.if-d-tail.true (omega arith))

pub returns-in_default : goal.returns-in_default
returns-in_default c = l_bad _ _ _ c.skip_plain.ensures.read _ c.in_default.is

pub returns : goal.returns
returns c =
    l_fields _ _ _ c.skip_plain.ensures.read _ _
    c.in-Ok.is (omega arith) _
    c.u16_at-count.ensures (omega arith) _ c.u16_at-size.ensures (omega arith)
