use Rattle.loading.proofs.Laws.{line_added}
use Rattle.loading.proofs.add_line.Goals as goal

pub returns : goal.returns
returns c = line_added _ _ c.read_key.ensures c.add_key.ensures
