use Rattle.loading.proofs.Laws.{Walking}
use lib.ListN.{length}
use Prim.Native.Nat.{◌-◌}
use Rattle.loading.proofs.walk_lines.Given as goal

abbrev pub invariant-loop-at : goal.invariant-loop-at
invariant-loop-at l = Walking l.text l.from l.initial.words l.initial.suffixes l.initial.named l.words l.suffixes l.named l.suffix l.at l.w

abbrev pub decreases-loop-at : goal.decreases-loop-at
decreases-loop-at l = length l.text - l.at
