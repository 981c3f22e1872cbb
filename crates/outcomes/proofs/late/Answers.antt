-- `outcomes::late` meets its contract. Assumes nothing.
use mathlib.Core.Path.{refl, sym}
use native.Mathlib.Omega.{arith}
use Rattle.outcomes.proofs.Laws.{its_words, first_time, first_clock, first_none}
use Rattle.outcomes.proofs.late.Goals as goal

pub returns-then-time-ge281472829227008 : goal.returns-then-time-ge281472829227008
returns-then-time-ge281472829227008 c = first_time _ _ _ _ (sym c.requires) refl c.if-time-ge281472829227008.true

pub bounds-words-0 : goal.bounds-words-0
bounds-words-0 c =
    let a = c.args in
    omega (arith, its_words a.words.now a.suffixes.now a.time _ (sym c.requires) refl)

pub returns-then-time-words : goal.returns-then-time-words
returns-then-time-words c = first_clock _ _ _ _ (sym c.requires) refl c.if-time-ge281472829227008.false c.if-time-words.true

pub returns : goal.returns
returns c = first_none _ _ _ _ (sym c.requires) refl c.if-time-ge281472829227008.false c.if-time-words.false
