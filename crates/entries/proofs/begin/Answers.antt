use Rattle.entries.proofs.Laws.{begun_pair, begun_unread}
use Rattle.model.specs.Pairs.{with_keys}
use Rattle.entries.proofs.begin.Goals as goal

pub returns-in-Some : goal.returns-in-Some
unfolding with_keys
returns-in-Some c = rw c.in-Some.is (begun_pair _ _)

pub returns-in-None : goal.returns-in-None
returns-in-None c = rw c.in-None.is begun_unread
