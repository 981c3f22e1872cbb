-- `records::opcode` meets its contract. Assumes nothing.
use native.Mathlib.Omega.{arith}
use native.Mathlib.Nat.{mod-lt}
use Rattle.model.specs.Messages.{opcode_of}
use borrow.Author.Rules.{rules}
use Rattle.records.proofs.opcode.Goals as goal

pub returns : goal.returns
unfolding opcode_of
returns c = rw c.wide.ensures.0 (search rules, mod-lt _ (omega arith))
