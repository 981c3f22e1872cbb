-- `tkey::renews_or_adopts` meets its contract. Assumes nothing.
use Rattle.model.specs.Tkey.{renews_or_adopts}
use Rattle.tkey.proofs.renews_or_adopts.Goals as goal

pub returns-in-Deletion : goal.returns-in-Deletion
unfolding renews_or_adopts
returns-in-Deletion c = rw c.in-Deletion.is

pub returns-in-Renewal : goal.returns-in-Renewal
unfolding renews_or_adopts
returns-in-Renewal c = rw c.in-Renewal.is

pub returns-in-Adoption : goal.returns-in-Adoption
unfolding renews_or_adopts
returns-in-Adoption c = rw c.in-Adoption.is

pub returns-in-Reserved : goal.returns-in-Reserved
unfolding renews_or_adopts
returns-in-Reserved c = rw c.in-Reserved.is

pub returns-in-Unsupported : goal.returns-in-Unsupported
unfolding renews_or_adopts
returns-in-Unsupported c = rw c.in-Unsupported.is
