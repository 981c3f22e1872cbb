-- `operator::enrol_known` meets its contract. That a row is left is found by arithmetic, so that it is the number that is proved, and not a condition's name.
-- Assumes nothing.
use mathlib.Core.Path.{refl}
use Prim.Native.Nat.{◌<◌}
use native.Mathlib.Omega.{arith}
use lib.ListN.{get_or}
use Rattle.store.proofs.Laid.{laid}
use Rattle.operator.proofs.Laws.{known_twin, known_full, known_spent, known_done, floor_rule, ready}
use Rattle.operator.proofs.enrol_known.Goals as goal

pub bounds-words-1 : goal.bounds-words-1
bounds-words-1 c =
    let w = c.args.words.now in
    let s = c.args.suffixes.now in
    omega (arith, (laid w s c.requires.0.layout).words)

pub returns-then-words-ge64 : goal.returns-then-words-ge64
returns-then-words-ge64 c = λ n k. known_full _ _ _ _ _ n _ c.requires.1 c.requires.2 _ k _ c.find.ensures _ _ c.in-Err.is c.requires.0 c.if-words-ge64.true refl

pub bounds-words-2 : goal.bounds-words-2
bounds-words-2 c =
    let w = c.args.words.now in
    let s = c.args.suffixes.now in
    omega (arith, (laid w s c.requires.0.layout).words)

pub returns-then-floor-ge4294967296 : goal.returns-then-floor-ge4294967296
returns-then-floor-ge4294967296 c =
    let few : get_or c.args.words.now 1 0 < 64 = omega arith in
    λ n k. known_spent _ _ _ _ _ n _ c.requires.1 c.requires.2 _ k _ c.find.ensures _ _ c.in-Err.is c.requires.0 few c.if-floor-ge4294967296.true refl

pub first_pair-p-requires : goal.first_pair-p-requires
first_pair-p-requires c = (floor_rule _ _ _ c.requires.0, c.requires.2, c.requires.0.fits)

pub enrol_row-requires : goal.enrol_row-requires
enrol_row-requires c =
    let w = c.args.words.now in
    let s = c.args.suffixes.now in
    let few : get_or c.args.words.now 1 0 < 64 = omega arith in
    ready w s _ _ c.find.ensures _ c.in-Err.is c.requires.0.layout few c.requires.1

pub returns-in_default : goal.returns-in_default
returns-in_default c = λ n k. known_twin _ _ _ _ _ n _ c.requires.1 c.requires.2 _ k _ c.find.ensures _ c.in_default.is refl

pub returns : goal.returns
returns c =
    let few : get_or c.args.words.now 1 0 < 64 = omega arith in
    λ n k. known_done _ _ _ _ _ n _ c.requires.1 c.requires.2 _ k _ c.find.ensures _ _ c.in-Err.is c.requires.0 few c.if-floor-ge4294967296.false c.first_pair-p.ensures c.enrol_row.ensures
