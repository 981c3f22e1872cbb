-- `locating::find_after` meets its contract: a name without pointers is a slice of the message. Assumes nothing.
use Rattle.matching.proofs.Comparing.{readable_is}
use Rattle.locating.proofs.Standing.{sought_after}
use Rattle.locating.proofs.find_after.Goals as goal

pub returns-in-Some : goal.returns-in-Some
returns-in-Some c = sought_after _ _ (readable_is _ _ _ _ c.in-Some.ensures.says) c.after_label.ensures c.find.ensures
