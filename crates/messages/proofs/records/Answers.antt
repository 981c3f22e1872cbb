-- `messages::records` meets its contract. Assumes nothing.
use Prim.Native.Nat.{ℕ, ◌+◌}
use mathlib.Core.List.{[]}
use mathlib.Core.Path.{sym, ap, ◌∙◌}
use native.Mathlib.Omega.{arith}
use Rattle.std.proofs.lemmas.Result.{err_from_is_err_and}
use Rattle.model.specs.Octets.{reads}
use Rattle.messages.specs.declared.Seen.{Seen}
use Rattle.messages.specs.Scan.{seen_of, scan_from}
use Rattle.messages.proofs.Loops.{scan_none, scan_stops, scan_goes}
use Rattle.messages.proofs.records.Goals as goal

pub loop-init : goal.loop-init
loop-init c = let a = c.args in ap (λ (n : ℕ). scan_from a.m.now a.section n (seen_of a.before) a.at) (omega arith)

pub returns-in_err-kind : goal.returns-in_err-kind
returns-in_err-kind c =
    let p = err_from_is_err_and c.from_residual.result c.from_residual.ensures.1 in
    rw (p.1, p.2) (c.loop.invariant ∙ scan_stops _ _ _ _ _ _ _ c.skip_record.ensures.read (omega arith) _ c.in_err-kind.was)

pub overflow_add-place : goal.overflow_add-place
overflow_add-place c = let w = rw c.in_ok-kind.was at c.skip_record.ensures.read.bounds in omega arith

pub loop-preserved : goal.loop-preserved
loop-preserved c =
    let f = c.in_ok-kind.field-0 in
    c.loop.invariant
    ∙ scan_goes _ _ _ _ _ _ _ c.skip_record.ensures.read (omega arith) _ _ _ _ _ c.in_ok-kind.was _ c.note-notes.ensures
    ∙ ap (λ (n : ℕ). scan_from c.args.m.now c.args.section n (seen_of c.note-notes.result) (f.content.from + f.content.size)) (omega arith)

pub returns : goal.returns
returns c =
    let h = c.loop in
    h.invariant ∙ scan_none _ _ _ [] _ _ (omega arith) ∙ ap (λ (s : Seen). reads s h.place) (sym c.seen_of-seen.ensures)
