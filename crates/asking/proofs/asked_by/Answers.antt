-- `asking::asked_by` meets its contract. Assumes nothing.
use mathlib.Core.List.{[]}
use borrow.Author.Tests.{not-true, not-false}
use Rattle.asking.proofs.Laws.{shows_as, by_other, by_nothing, by_tkey, tkey_fits}
use Rattle.asking.proofs.asked_by.Goals as goal

pub returns-then-not-c : goal.returns-then-not-c
returns-then-not-c c = shows_as (by_other c.args.m.now c.args.c (not-true _ c.if-not-c.true)) (c.nothing_asked.ensures _)

pub asked_with-requires : goal.asked_with-requires
asked_with-requires c = ((tkey_fits _ c.args.c c.requires _ c.in-Some.is).1, c.requires.key_fits)

pub returns-in-None : goal.returns-in-None
returns-in-None c = shows_as (by_nothing c.args.m.now c.args.c (not-false _ c.if-not-c.false) c.in-None.is) (c.nothing_asked-in-None.ensures _)

pub returns-in-Some : goal.returns-in-Some
returns-in-Some c = shows_as (by_tkey c.args.m.now c.args.c (not-false _ c.if-not-c.false) _ c.in-Some.is) (c.asked_with.ensures [])
