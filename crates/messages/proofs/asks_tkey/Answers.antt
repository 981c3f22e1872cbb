-- `messages::asks_tkey` meets its contract. Assumes nothing.
use Rattle.messages.proofs.asks_tkey.Goals as goal

pub returns-in-Single : goal.returns-in-Single
returns-in-Single c = simp c.in-Single.is
