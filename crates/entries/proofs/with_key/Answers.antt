use Rattle.model.specs.Pairs.{with_keys}
use Rattle.entries.proofs.Laws.{with_keys_lem, with_none}
use Rattle.entries.proofs.with_key.Goals as goal

pub returns-in-Some : goal.returns-in-Some
unfolding with_keys
returns-in-Some c = with_keys_lem _ _ _ _ c.key_added.ensures _ c.in-Some.is

pub returns-in-None : goal.returns-in-None
returns-in-None c = with_none _ _ _ _ c.key_added.ensures c.in-None.is
