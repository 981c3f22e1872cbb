-- `batches::items_inside` meets its contract. The loop's invariant: all items lie inside where those from i on do. Assumes nothing.
use mathlib.Core.Path.{sym, ap, ◌∙◌}
use Rattle.model.specs.Batches.{items_inside}
use Rattle.batches.proofs.Laws.{rest_all, rest_none, items_stop, items_on}
use Rattle.batches.proofs.items_inside.Goals as goal

pub loop-i-init : goal.loop-i-init
loop-i-init c = λ octets is. ap (items_inside octets) (sym (rest_all _ _))

pub returns-then-not-is_item_inside : goal.returns-then-not-is_item_inside
returns-then-not-is_item_inside c = λ octets is.
    let l = c.loop-i in
    let x = rw c.item_at.ensures at (sym c.is_item_inside.ensures ∙ c.if-not-is_item_inside.true) in
    sym (l.invariant octets is ∙ items_stop octets _ is _ _ l.i c.loop-i-test.true x)

pub loop-i-preserved : goal.loop-i-preserved
loop-i-preserved c = λ octets is.
    let l = c.loop-i in
    let x = rw c.item_at.ensures at (sym c.is_item_inside.ensures ∙ c.if-not-is_item_inside.false) in
    l.invariant octets is ∙ items_on octets _ is _ _ l.i c.loop-i-test.true x

pub returns : goal.returns
returns c = λ octets is.
    let l = c.loop-i in
    sym (l.invariant octets is ∙ ap (items_inside octets) (rest_none _ _ l.i c.loop-i-test.false))
