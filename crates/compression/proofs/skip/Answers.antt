-- `compression::skip` meets its contract: the whole name is what is left from here. Assumes nothing.
use mathlib.Core.Path.{refl}
use mathlib.Core.List.{[]}
use native.Mathlib.Omega.{arith}
use borrow.Author.Rules.{rules}
use lib.ListN.{get_or}
use Rattle.model.proofs.Items.{item_none, item_ends, item_refused, item_long}
use Rattle.compression.proofs.Skipping.{going_starts, going_fails, going_ends, going_adds, going_goes}
use Rattle.compression.proofs.skip.Goals as goal

pub loop-place-init : goal.loop-place-init
loop-place-init c = (search rules, going_starts _ _ _ _ _ [] refl)

pub returns-in-0 : goal.returns-in-0
returns-in-0 c =
    let l = c.loop-place in
    let a = c.args in
    going_ends _ _ _ _ _ _ l.invariant.0 l.invariant.1 _ (item_ends a.m.now a.first l.place l.len (omega arith) (get_or a.m.now l.place 0) refl c.in-0.is) (λ o. refl) (omega arith)

pub returns-then-len-n-gt254 : goal.returns-then-len-n-gt254
returns-then-len-n-gt254 c =
    let w = c.wide-n in
    let l = c.loop-place in
    let a = c.args in
    going_fails _ _ _ _ _ _ l.invariant.0 l.invariant.1 _ (item_long a.m.now a.first l.place l.len (omega arith) w.result w.ensures.0 (omega arith) (omega arith) (omega arith)) refl

pub loop-place-preserved : goal.loop-place-preserved
loop-place-preserved c =
    let w = c.wide-n in
    let l = c.loop-place in
    (omega arith, going_adds _ _ _ _ _ _ l.invariant.0 l.invariant.1 w.result (omega arith) w.ensures.0 (omega arith) (omega arith) (omega arith))

pub returns-in-64-to-191 : goal.returns-in-64-to-191
returns-in-64-to-191 c =
    let l = c.loop-place in
    let a = c.args in
    going_fails _ _ _ _ _ _ l.invariant.0 l.invariant.1 _ (item_refused a.m.now a.first l.place l.len (omega arith) (get_or a.m.now l.place 0) refl (omega arith) (omega arith)) refl

pub returns-in-192-to-255 : goal.returns-in-192-to-255
returns-in-192-to-255 c = going_goes _ _ _ _ _ _ c.loop-place.invariant.0 c.loop-place.invariant.1 _ (λ n. refl) c.skip_pointer.ensures

pub returns : goal.returns
returns c =
    let l = c.loop-place in
    let a = c.args in
    going_fails _ _ _ _ _ _ l.invariant.0 l.invariant.1 _ (item_none a.m.now a.first l.place l.len (omega arith)) refl
