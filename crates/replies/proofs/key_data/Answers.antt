-- `replies::key_data` meets its contract. Assumes nothing.
use Rattle.replies.proofs.key_data.Goals as goal

pub returns-else-offered : goal.returns-else-offered
returns-else-offered c =
    simp c.if-offered.false
