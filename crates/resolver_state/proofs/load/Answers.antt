-- `resolver_state::load` meets its contract. Assumes nothing.
use Rattle.resolver_state.specs.State.{resolver_of}
use Rattle.resolver_state.proofs.Laws.{known}
use Rattle.resolver_state.proofs.load.Goals as goal

pub returns : goal.returns
unfolding resolver_of
returns c = simp (c.request_by-awaited.ensures, c.key_in-offered.ensures, c.key_in-adopted.ensures, c.holding_by-holding.ensures, c.is_ok-offered_known.ensures.value, c.is_ok-adopted_known.ensures.value, known _ _ c.try_from.ensures, known _ _ c.try_from-2.ensures)
