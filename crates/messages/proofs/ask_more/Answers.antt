-- `messages::ask_more` meets its contract. Assumes nothing.
use Rattle.messages.proofs.ask_more.Goals as goal

pub returns-in-Nothing : goal.returns-in-Nothing
returns-in-Nothing c = simp c.in-Nothing.is
