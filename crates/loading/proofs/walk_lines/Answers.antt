use Rattle.store.proofs.Laid.{laid}
use Rattle.loading.proofs.Laws.{walking_first, walking_next, walking_last}
use native.Mathlib.Omega.{arith}
use mathlib.Core.Path.{refl, sym, ◌∙◌}
use Rattle.loading.proofs.walk_lines.Goals as goal

pub loop-at-init : goal.loop-at-init
loop-at-init c = walking_first _ _ _ _ _ _ refl c.requires.0 c.requires.1 c.requires.2

pub line_end-end-requires : goal.line_end-end-requires
line_end-end-requires c = c.loop-at-test.true

pub slice_bounds-turn-count : goal.slice_bounds-turn-count
slice_bounds-turn-count c = omega (arith, c.line_end-end.ensures.more)

pub slice_bounds-turn-start : goal.slice_bounds-turn-start
slice_bounds-turn-start c = omega (arith, c.line_end-end.ensures.more)

pub slice_bounds-turn-end : goal.slice_bounds-turn-end
slice_bounds-turn-end c = omega (arith, c.line_end-end.ensures.within)

pub turn-w-requires : goal.turn-w-requires
turn-w-requires c =
    let v = c.loop-at.invariant in
    (v.layout, omega (arith, v.buffer), v.fits, v.few, omega (arith, v.numbered, c.line_end-end.ensures.more, c.line_end-end.ensures.within))

pub loop-at-smaller : goal.loop-at-smaller
loop-at-smaller c = omega (arith, c.line_end-end.ensures.within, c.line_end-end.ensures.more)

pub loop-at-preserved : goal.loop-at-preserved
loop-at-preserved c = walking_next _ _ _ _ _ _ _ _ _ _ _ c.loop-at.invariant c.line_end-end.ensures c.turn-w.ensures

pub settle-requires : goal.settle-requires
settle-requires c =
    let v = c.loop-at.invariant in
    (v.layout, omega (arith, v.buffer, v.fits), omega (arith, v.few, v.numbered, v.within), omega (arith, v.numbered, v.within))

pub shape_of-words : goal.shape_of-words
shape_of-words c = (laid _ _ c.settle.ensures.layout).words ∙ sym (laid _ _ c.requires.0).words

pub shape_of-suffixes : goal.shape_of-suffixes
shape_of-suffixes c = (laid _ _ c.settle.ensures.layout).octets ∙ sym (laid _ _ c.requires.0).octets

pub shape_of-named : goal.shape_of-named
shape_of-named c = c.settle.ensures.names.size ∙ c.loop-at.invariant.names.size

pub returns : goal.returns
returns c = walking_last _ _ _ _ _ _ _ _ _ _ _ c.loop-at.invariant c.loop-at-test.false c.settle.ensures
