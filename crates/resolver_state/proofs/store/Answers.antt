-- `resolver_state::store` meets its contract. Assumes nothing.
use Rattle.resolver_state.proofs.Laws.{stored}
use Rattle.resolver_state.proofs.store.Goals as goal

pub returns : goal.returns
returns c = stored _ c.store_words.ensures c.store_names.ensures
