-- `names::wire_name` meets its contract. The loop's invariant: the test is what is left of it from `at` on. Assumes nothing.
use borrow.Author.Rules.{rules}
use mathlib.Core.Path.{sym, ◌∙◌}
use native.Mathlib.Omega.{arith}
use Rattle.names.proofs.Wire.{from_start, left_none, left_ends, left_high, left_long, left_cut, left_label}
use Rattle.names.proofs.wire_name.Goals as goal

pub loop-at-init : goal.loop-at-init
loop-at-init c = (search rules, search rules, from_start _)

pub returns-then-b-eq0 : goal.returns-then-b-eq0
returns-then-b-eq0 c =
    let l = c.loop-at in
    sym (l.invariant.2 ∙ left_ends _ l.at l.invariant.1 l.invariant.0 (omega arith) c.wide-b.result c.wide-b.ensures.0 (omega arith))

pub returns-then-b-gt63 : goal.returns-then-b-gt63
returns-then-b-gt63 c =
    let l = c.loop-at in
    sym (l.invariant.2 ∙ left_high _ l.at l.invariant.1 l.invariant.0 (omega arith) c.wide-b.result c.wide-b.ensures.0 (omega arith))

pub returns-then-at-b-gt253 : goal.returns-then-at-b-gt253
returns-then-at-b-gt253 c =
    let l = c.loop-at in
    sym (l.invariant.2 ∙ left_long _ l.at l.invariant.1 l.invariant.0 (omega arith) c.wide-b.result c.wide-b.ensures.0 (omega arith) (omega arith) (omega arith))

pub returns-then-s-at : goal.returns-then-s-at
returns-then-s-at c =
    let l = c.loop-at in
    sym (l.invariant.2 ∙ left_cut _ l.at l.invariant.1 l.invariant.0 (omega arith) c.wide-b.result c.wide-b.ensures.0 (omega arith) (omega arith) (omega arith) (omega arith))

pub loop-at-preserved : goal.loop-at-preserved
loop-at-preserved c =
    let l = c.loop-at in
    (omega arith, omega arith, l.invariant.2 ∙ left_label _ l.at l.invariant.1 l.invariant.0 (omega arith) c.wide-b.result c.wide-b.ensures.0 (omega arith) (omega arith) (omega arith) (omega arith))

pub returns : goal.returns
returns c =
    let l = c.loop-at in
    sym (l.invariant.2 ∙ left_none _ l.at l.invariant.1 l.invariant.0 (omega arith))
