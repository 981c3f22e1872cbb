-- `matching::is_key_name_at` meets its contract: a name without pointers is a slice of the message. Assumes nothing.
use Rattle.matching.proofs.is_key_name_at.Goals as goal

pub returns-in-Some : goal.returns-in-Some
returns-in-Some c = rw c.in-Some.ensures.says c.is_key_name.ensures
