-- What stands at a place of a run of labels, by `item_at`, and what the reading of the whole name is from there. Assumes nothing.
use mathlib.Core.Path.{ap, ◌∙◌}
use native.Mathlib.Omega.{arith}
use borrow.Author.Rules.{rules}
use lib.ListN.{length}
use Rattle.compression.specs.Name.{item_of}
use Rattle.std.proofs.lemmas.Result.{err_from_is_err_and}
use Rattle.compression.proofs.Laws.{item_fine, on_fails, on_ends, on_label, on_points, chain_fails, chain_on, chain_breaks, chain_ends}
use Rattle.compression.proofs.+labels_pointer.Goals as goal

-- ── The label walker ────────────────────────────────────────────────────────────────────────────────────────────────

pub labels-returns-in-Fails : goal.labels-returns-in-Fails
labels-returns-in-Fails t c =
    let a = c.args in
    let l = c.loop-failed in
    on_fails a.m.now l.out a.start l.place l.len l.invariant.2 l.invariant.1 l.invariant.3 (c.item_at.ensures ∙ ap item_of c.in-Fails.is)

pub labels-overflow_add-result-in-Ends : goal.labels-overflow_add-result-in-Ends
labels-overflow_add-result-in-Ends t c =
    let a = c.args in
    let l = c.loop-failed in
    omega (arith, item_fine a.m.now a.start l.place l.len (c.item_at.ensures ∙ ap item_of c.in-Ends.is))

pub labels-returns-in-Ends : goal.labels-returns-in-Ends
labels-returns-in-Ends t c =
    let a = c.args in
    let l = c.loop-failed in
    on_ends a.m.now l.out a.start l.place l.len l.invariant.2 l.invariant.1 l.invariant.3 (c.item_at.ensures ∙ ap item_of c.in-Ends.is)

pub labels-overflow_add-n : goal.labels-overflow_add-n
labels-overflow_add-n t c =
    let f = item_fine c.args.m.now c.args.start c.loop-failed.place c.loop-failed.len (c.item_at.ensures ∙ ap item_of c.in-Label.is) in
    omega (arith, f.0, f.1)

pub labels-copy-requires : goal.labels-copy-requires
labels-copy-requires t c =
    let f = item_fine c.args.m.now c.args.start c.loop-failed.place c.loop-failed.len (c.item_at.ensures ∙ ap item_of c.in-Label.is) in
    (c.loop-failed.invariant.2, omega (arith, f.0, f.1), omega (arith, f.0, f.1))

pub labels-overflow_add-place : goal.labels-overflow_add-place
labels-overflow_add-place t c =
    let f = item_fine c.args.m.now c.args.start c.loop-failed.place c.loop-failed.len (c.item_at.ensures ∙ ap item_of c.in-Label.is) in
    omega (arith, f.0, f.1)

pub labels-overflow_add-place-in-Label : goal.labels-overflow_add-place-in-Label
labels-overflow_add-place-in-Label t c =
    let f = item_fine c.args.m.now c.args.start c.loop-failed.place c.loop-failed.len (c.item_at.ensures ∙ ap item_of c.in-Label.is) in
    omega (arith, f.0, f.1)

pub labels-overflow_add-len : goal.labels-overflow_add-len
labels-overflow_add-len t c =
    let f = item_fine c.args.m.now c.args.start c.loop-failed.place c.loop-failed.len (c.item_at.ensures ∙ ap item_of c.in-Label.is) in
    omega (arith, f.0, f.1)

pub labels-overflow_add-len-in-Label : goal.labels-overflow_add-len-in-Label
labels-overflow_add-len-in-Label t c =
    let f = item_fine c.args.m.now c.args.start c.loop-failed.place c.loop-failed.len (c.item_at.ensures ∙ ap item_of c.in-Label.is) in
    omega (arith, f.0, f.1)

pub labels-loop-failed-preserved : goal.labels-loop-failed-preserved
labels-loop-failed-preserved t c =
    let a = c.args in
    let l = c.loop-failed in
    let is = c.item_at.ensures ∙ ap item_of c.in-Label.is in
    let f = item_fine a.m.now a.start l.place l.len is in
    (omega arith, omega (arith, f.0, f.1), c.copy.ensures.0, on_label a.m.now l.out a.start l.place l.len l.invariant.2 l.invariant.1 l.invariant.3 c.copy.new.out is c.copy.ensures.1)

pub labels-overflow_add-place-in-Points : goal.labels-overflow_add-place-in-Points
labels-overflow_add-place-in-Points t c =
    let f = item_fine c.args.m.now c.args.start c.loop-failed.place c.loop-failed.len (c.item_at.ensures ∙ ap item_of c.in-Points.is) in
    omega (arith, f.0, f.1)

pub labels-pointer-requires : goal.labels-pointer-requires
labels-pointer-requires t c =
    let f = item_fine c.args.m.now c.args.start c.loop-failed.place c.loop-failed.len (c.item_at.ensures ∙ ap item_of c.in-Points.is) in
    search rules

pub labels-returns-in-Points : goal.labels-returns-in-Points
labels-returns-in-Points t c =
    let a = c.args in
    let l = c.loop-failed in
    on_points a.m.now l.out a.start l.place l.len l.invariant.2 l.invariant.1 l.invariant.3 (c.item_at.ensures ∙ ap item_of c.in-Points.is) c.pointer.ensures

-- ── The pointer follower ────────────────────────────────────────────────────────────────────────────────────────────

pub pointer-returns-in-Fails : goal.pointer-returns-in-Fails
pointer-returns-in-Fails t c =
    let a = c.args in
    let l = c.loop-failed in
    chain_fails a.m.now l.out l.to a.used a.next (ap length l.invariant.1 ∙ omega arith) (omega arith) l.invariant.2 (c.item_at.ensures ∙ ap item_of c.in-Fails.is)

pub pointer-loop-failed-smaller : goal.pointer-loop-failed-smaller
pointer-loop-failed-smaller t c =
    let l = c.loop-failed in
    let f = item_fine c.args.m.now l.to l.to c.args.used (c.item_at.ensures ∙ ap item_of c.in-Points.is) in
    omega (arith, f.0)

pub pointer-loop-failed-preserved : goal.pointer-loop-failed-preserved
pointer-loop-failed-preserved t c =
    let a = c.args in
    let l = c.loop-failed in
    let is = c.item_at.ensures ∙ ap item_of c.in-Points.is in
    let f = item_fine a.m.now l.to l.to a.used is in
    (omega (arith, f.0), l.invariant.1, chain_on a.m.now l.out l.to a.used a.next (ap length l.invariant.1 ∙ omega arith) (omega arith) l.invariant.2 is)

pub pointer-returns-in_err-len-in_default : goal.pointer-returns-in_err-len-in_default
pointer-returns-in_err-len-in_default t c =
    let a = c.args in
    let l = c.loop-failed in
    let p = err_from_is_err_and c.from_residual.result c.from_residual.ensures.1 in
    rw (p.1, p.2) (chain_breaks a.m.now l.out l.to a.used a.next (ap length l.invariant.1 ∙ omega arith) (omega arith) l.invariant.2 c.in_err-len-in_default.ensures)

pub pointer-returns-in_default : goal.pointer-returns-in_default
pointer-returns-in_default t c =
    let a = c.args in
    let l = c.loop-failed in
    chain_ends a.m.now l.out l.to a.used a.next (ap length l.invariant.1 ∙ omega arith) (omega arith) l.invariant.2 (omega arith) c.in_ok-len-in_default.ensures
