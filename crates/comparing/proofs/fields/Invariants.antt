-- `comparing::fields` meets its contract. The loop's invariant: what differs first is what differs first in the widths that are left. Assumes nothing.
use Rattle.comparing.proofs.Laws.{Passing}
use Rattle.comparing.proofs.fields.Given as goal

abbrev pub invariant-loop-width : goal.invariant-loop-width
invariant-loop-width l = Passing l.a l.i l.b l.j l.place l.widths l.width-index l.past
