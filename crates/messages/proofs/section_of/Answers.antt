-- `messages::section_of` meets its contract. Assumes nothing.
use mathlib.Core.Path.{refl}
use borrow.Author.Tests.{le-leb, lt-leb}
use Rattle.messages.proofs.section_of.Goals as goal

pub returns-then-left-three : goal.returns-then-left-three
returns-then-left-three c = rw (le-leb _ _ c.if-left-three.true) refl

pub returns-then-left-two : goal.returns-then-left-two
returns-then-left-two c = rw (lt-leb _ _ c.if-left-three.false, le-leb _ _ c.if-left-two.true) refl

pub returns : goal.returns
returns c = rw (lt-leb _ _ c.if-left-three.false, lt-leb _ _ c.if-left-two.false) refl
