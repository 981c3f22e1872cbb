use Rattle.loading.proofs.Laws.{pair_started}
use Rattle.loading.proofs.start_pair.Goals as goal

pub returns : goal.returns
returns c = pair_started _ _ _ c.read_pair.ensures c.begin-said.ensures
