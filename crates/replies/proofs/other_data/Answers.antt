-- `replies::other_data` meets its contract. Assumes nothing.
use Rattle.replies.proofs.other_data.Goals as goal

pub returns-then-again : goal.returns-then-again
returns-then-again c = simp c.if-again.true
