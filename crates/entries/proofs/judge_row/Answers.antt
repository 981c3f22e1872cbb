use mathlib.Core.Bool.{◌&&◌}
use Rattle.entries.proofs.Laws.{row_dropped, row_kept, row_broken}
use Rattle.store.proofs.Laid.{laid}
use Rattle.std.proofs.lemmas.Result.{err_from_is_err_and}
use mathlib.Core.Path.{refl, ap₂, sym, ◌∙◌}
use native.Mathlib.Omega.{arith}
use Rattle.entries.proofs.judge_row.Goals as goal

pub bounds-words-0 : goal.bounds-words-0
bounds-words-0 c = omega (arith, (laid c.args.words.now c.args.suffixes.now c.requires).words)

pub returns-then-suffix_ok-pair_rule : goal.returns-then-suffix_ok-pair_rule
returns-then-suffix_ok-pair_rule c = row_kept _ _ _ _ c.in_ok-place.ensures _ _ refl c.requires (sym (ap₂ ◌&&◌ c.suffix_ok.ensures c.pair_rule.ensures) ∙ c.if-suffix_ok-pair_rule.true)

pub returns-in_err-place : goal.returns-in_err-place
returns-in_err-place c =
    let e = err_from_is_err_and c.from_residual.result c.from_residual.ensures.1 in
    rw (e.1, e.2) (row_dropped _ _ _ _ c.in_err-place.ensures _ _ refl)

pub returns : goal.returns
returns c = row_broken _ _ _ _ c.in_ok-place.ensures _ _ refl (sym (ap₂ ◌&&◌ c.suffix_ok.ensures c.pair_rule.ensures) ∙ c.if-suffix_ok-pair_rule.false)
