-- `digests::canonical_into` meets its contract: the name is written, and put in lower case where it stands. Assumes nothing.
use Rattle.digests.proofs.Laws.{canonical_done}
use Rattle.digests.proofs.canonical_into.Goals as goal

pub returns : goal.returns
returns c = (c.all_into-end.ensures.0, canonical_done c.all_into-end.ensures.1 _ c.make_ascii_lowercase.ensures.after)
