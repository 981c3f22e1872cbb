use Rattle.loading.proofs.Laws.{unread_here, unread_next, unread_end}
use native.Mathlib.Omega.{arith}
use mathlib.Core.Path.{refl, sym, ◌∙◌}
use Rattle.loading.proofs.unread_below.Goals as goal

pub loop-at-init : goal.loop-at-init
loop-at-init c = (refl, omega arith, omega arith, omega arith, refl)

pub line_end-end-requires : goal.line_end-end-requires
line_end-end-requires c = c.loop-at-test.true

pub slice_bounds-reads_as-count : goal.slice_bounds-reads_as-count
slice_bounds-reads_as-count c = omega (arith, c.line_end-end.ensures.more)

pub slice_bounds-reads_as-start : goal.slice_bounds-reads_as-start
slice_bounds-reads_as-start c = omega (arith, c.line_end-end.ensures.more)

pub slice_bounds-reads_as-end : goal.slice_bounds-reads_as-end
slice_bounds-reads_as-end c = omega (arith, c.line_end-end.ensures.within)

pub slice_bounds-reads_as-end-in-loop-at : goal.slice_bounds-reads_as-end-in-loop-at
slice_bounds-reads_as-end-in-loop-at c = sym c.loop-at.invariant.0

pub returns-then-not-reads_as : goal.returns-then-not-reads_as
returns-then-not-reads_as c =
    let a = c.args in
    let k = c.loop-at in
    sym (unread_here a.text.now a.from k.at k.n k.invariant.4 _ c.line_end-end.ensures (sym c.reads_as.ensures.0 ∙ c.if-not-reads_as.true) k.invariant.2)

pub overflow_add-n : goal.overflow_add-n
overflow_add-n c = omega (arith, c.line_end-end.ensures.within)

pub loop-at-smaller : goal.loop-at-smaller
loop-at-smaller c = omega (arith, c.line_end-end.ensures.within, c.line_end-end.ensures.more)

pub loop-at-preserved : goal.loop-at-preserved
loop-at-preserved c =
    let a = c.args in
    let k = c.loop-at in
    (c.reads_as.ensures.1 ∙ k.invariant.0, c.line_end-end.ensures.within, omega arith, omega (arith, c.line_end-end.ensures.more), unread_next a.text.now a.from k.at k.n k.invariant.4 _ c.line_end-end.ensures (sym c.reads_as.ensures.0 ∙ c.if-not-reads_as.false) k.invariant.2)

pub returns : goal.returns
returns c =
    let a = c.args in
    let k = c.loop-at in
    sym (unread_end a.text.now a.from k.at k.n k.invariant.4 c.loop-at-test.false)
