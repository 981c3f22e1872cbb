-- `messages::all_records` meets its contract. Assumes nothing.
use Prim.Native.Nat.{ℕ, ◌+◌}
use mathlib.Core.Path.{sym, ap, ◌∙◌}
use native.Mathlib.Omega.{arith}
use Rattle.std.proofs.lemmas.Result.{err_from_is_err_and}
use Rattle.model.specs.Octets.{reads}
use Rattle.messages.specs.declared.Seen.{Seen}
use Rattle.messages.specs.Scan.{seen_of}
use Rattle.messages.proofs.Lasts.{last_begins, last_noted, last_ends}
use Rattle.messages.proofs.Loops.{scan_last, last_none, last_stops, last_goes, last_begun}
use Rattle.messages.proofs.all_records.Goals as goal

pub loop-passed-init : goal.loop-passed-init
loop-passed-init c =
    let a = c.args in
    record {
      says = last_begun _ _ _ _ _ _ c.no_notes-notes.ensures c.u16_at.ensures.0 c.u16_at-two.ensures.0 c.u16_at-three.ensures.0
          ∙ ap (λ (n : ℕ). scan_last a.m.now c.u16_at-two.result c.u16_at-three.result n (seen_of c.no_notes-notes.result) a.at) (omega arith);
      lasts = last_begins _ _ c.no_notes-notes.result c.no_notes-notes.ensures;
    }

pub returns-in_err-last : goal.returns-in_err-last
returns-in_err-last c =
    let p = err_from_is_err_and c.from_residual.result c.from_residual.ensures.1 in
    rw (p.1, p.2) (c.loop-passed.invariant.says ∙ last_stops _ _ _ _ _ _ _ _ c.skip_record.ensures.read (omega arith) _ c.in_err-last.was, tt)

pub overflow_add-place : goal.overflow_add-place
overflow_add-place c = let w = rw c.in_ok-last.was at c.skip_record.ensures.read.bounds in omega arith

pub loop-passed-preserved : goal.loop-passed-preserved
loop-passed-preserved c =
    let f = c.in_ok-last.last in
    record {
      says = c.loop-passed.invariant.says
          ∙ last_goes _ _ _ _ _ _ _ _ c.skip_record.ensures.read (omega arith) _ _ _ _ _ c.in_ok-last.was _ c.section_of.ensures _ c.note-notes.ensures
          ∙ ap (λ (n : ℕ). scan_last c.args.m.now c.u16_at-two.result c.u16_at-three.result n (seen_of c.note-notes.result) (f.content.from + f.content.size)) (omega arith);
      lasts = last_noted _ _ c.loop-passed.notes c.note-notes.result _ _ _ c.note-notes.ensures c.skip_record.ensures c.in_ok-last.was;
    }

pub returns : goal.returns
returns c =
    let h = c.loop-passed in (
      h.invariant.says ∙ last_none _ _ _ _ _ _ (omega arith) ∙ ap (λ (s : Seen). reads s h.place) (sym c.seen_of-seen.ensures),
      last_ends _ _ h.notes c.seen_of-seen.result c.seen_of-seen.ensures h.invariant.lasts,
    )
