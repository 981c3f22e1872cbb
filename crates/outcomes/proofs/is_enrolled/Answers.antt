-- `outcomes::is_enrolled` meets its contract. Assumes nothing.
use mathlib.Core.Path.{refl}
use native.Mathlib.Omega.{arith}
use Rattle.outcomes.proofs.Laws.{shown_count, shown_words}
use Rattle.outcomes.proofs.is_enrolled.Goals as goal

pub bounds-words-1 : goal.bounds-words-1
bounds-words-1 c =
    let w = c.args.words.now in
    let s = c.args.suffixes.now in
    omega (arith, shown_words w s c.requires)

pub returns : goal.returns
returns c =
    let w = c.args.words.now in
    let s = c.args.suffixes.now in
    rw (shown_count w s c.requires) refl
