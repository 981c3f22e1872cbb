use Rattle.loading.specs.Walk.{Named}
use Rattle.model.specs.Loading.{dropped_from}
use Rattle.loading.proofs.name_lines.Given as goal

abbrev pub invariant-loop-i : goal.invariant-loop-i
invariant-loop-i l = Named l.before (dropped_from l.reason l.first l.i) l.initial.named l.named
