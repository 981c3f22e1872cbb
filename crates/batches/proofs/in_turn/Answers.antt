-- `batches::in_turn` meets its contract. The loop's invariant: what the first i items have done, and that the rest goes on from there. Assumes nothing.
use mathlib.Core.Path.{sym, subst, ◌∙◌}
use native.Mathlib.Omega.{arith}
use Rattle.batches.specs.Batched.{ItemFits}
use Rattle.batches.proofs.Laws.{same_words, turn_first, turn_fits, turn_more, turn_done}
use Rattle.batches.proofs.in_turn.Goals as goal

pub loop-i-init : goal.loop-i-init
loop-i-init c =
    turn_first _ _ _ _ _ _ _ c.requires.3 c.requires.0 c.requires.2

pub item_at-x-requires : goal.item_at-x-requires
item_at-x-requires c =
    let l = c.loop-i in
    omega (arith, l.invariant.few, c.loop-i-test.true, c.requires.1)

pub serve_behind-a-requires : goal.serve_behind-a-requires
serve_behind-a-requires c =
    let l = c.loop-i in
    (l.invariant.rules, subst (ItemFits c.args.octets.now) (sym c.item_at-x.ensures) (turn_fits l.invariant c.loop-i-test.true), omega (arith, l.invariant.replies.room, l.invariant.same))

pub answer_into-requires : goal.answer_into-requires
answer_into-requires c =
    let l = c.loop-i in
    omega (arith, l.invariant.few, l.invariant.many, c.loop-i-test.true)

pub overflow_add-used : goal.overflow_add-used
overflow_add-used c =
    let l = c.loop-i in
    omega (arith, c.serve_behind-a.ensures.replies.room, l.invariant.same, c.well_formed.1.1.1.1.1.1.0)

pub loop-i-preserved : goal.loop-i-preserved
loop-i-preserved c =
    let l = c.loop-i in
    let v = rw c.item_at-x.ensures at c.serve_behind-a.ensures in
    turn_more l.invariant c.loop-i-test.true _ _ _ _ v c.answer_into.ensures

pub shape_of-words : goal.shape_of-words
shape_of-words c =
    same_words _ _ _ c.requires.0 c.loop-i.invariant.rules

pub shape_of-answers : goal.shape_of-answers
shape_of-answers c = c.loop-i.invariant.many ∙ sym c.requires.2

pub shape_of-replies : goal.shape_of-replies
shape_of-replies c = c.loop-i.invariant.same

pub returns : goal.returns
returns c = turn_done c.loop-i.invariant c.loop-i-test.false
