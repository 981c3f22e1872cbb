use Rattle.entries.proofs.Laws.{place_twin, place_full, place_at}
use Rattle.store.proofs.Laid.{laid}
use native.Mathlib.Omega.{arith}
use Rattle.entries.proofs.place_for.Goals as goal

pub bounds-words-1 : goal.bounds-words-1
bounds-words-1 c = omega (arith, (laid c.args.words.now c.args.suffixes.now c.requires).words)

pub returns-then-words-ge64 : goal.returns-then-words-ge64
returns-then-words-ge64 c = place_full _ _ _ c.requires _ c.find.ensures _ c.in-Err.is c.if-words-ge64.true

pub returns-in-Ok : goal.returns-in-Ok
returns-in-Ok c = place_twin _ _ _ c.requires _ c.find.ensures _ c.in-Ok.is

pub returns-else-words-ge64 : goal.returns-else-words-ge64
returns-else-words-ge64 c = place_at _ _ _ c.requires _ c.find.ensures _ c.in-Err.is c.if-words-ge64.false
