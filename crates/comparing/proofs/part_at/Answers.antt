-- `comparing::part_at` meets its contract. Assumes nothing.
use native.Mathlib.Omega.{arith}
use Rattle.comparing.proofs.Laws.{part_none, part_all, part_in}
use Rattle.comparing.proofs.part_at.Goals as goal

pub returns-then-m-from : goal.returns-then-m-from
returns-then-m-from c = part_none _ _ _ (omega arith)

pub returns-then-m-from-2 : goal.returns-then-m-from-2
returns-then-m-from-2 c = part_all _ _ _ (omega arith)

pub returns : goal.returns
returns c = part_in _ _ _
