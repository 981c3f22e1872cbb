-- `batches::in_turn` meets its contract. The loop's invariant: what the first i items have done, and that the rest goes on from there. Assumes nothing.
use Rattle.batches.proofs.Laws.{Turn}
use Rattle.batches.proofs.in_turn.Given as goal

abbrev pub invariant-loop-i : goal.invariant-loop-i
invariant-loop-i l =
    Turn l.octets l.suffixes l.initial.words l.items l.count l.initial.answers l.initial.replies l.words l.answers l.replies l.used l.i
