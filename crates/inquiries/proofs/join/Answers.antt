-- `inquiries::join` meets its contract. Assumes nothing.
use mathlib.Core.List.{◌++◌}
use native.Mathlib.Omega.{arith}
use lib.ListN.{take}
use Rattle.octets.proofs.Laws.{then}
use Rattle.inquiries.proofs.Laws.{spells_refused, no_room, joined_length, room_for}
use Rattle.inquiries.proofs.join.Goals as goal

pub returns-then-out-n : goal.returns-then-out-n
returns-then-out-n c =
    let a = c.args in
    spells_refused a.out.now 8 (no_room _ (take a.n a.label.now ++ a.suffix.now) (joined_length a.n a.label.now a.suffix.now (omega arith) c.if-out-n.true)) c.not_spelt.ensures

pub returns : goal.returns
returns c = room_for (then c.all_into-next.ensures.1 c.all_into-end.ensures.1)
