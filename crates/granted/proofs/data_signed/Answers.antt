-- `granted::data_signed` meets its contract. Assumes nothing.
use Rattle.granted.proofs.Laws.{by_nobody, by_ill, by_verdict, by_signed}
use Rattle.granted.proofs.data_signed.Goals as goal

pub returns-then-not-good : goal.returns-then-not-good
returns-then-not-good c = by_verdict _ _ _ _ _ _ _ _ c.in-Key.is c.if-not-good.true

pub returns-in-Nobody : goal.returns-in-Nobody
returns-in-Nobody c = by_nobody _ _ _ _ _ _ c.in-Nobody.is

pub returns-in-Ill : goal.returns-in-Ill
returns-in-Ill c = by_ill _ _ _ _ _ _ c.in-Ill.is

pub returns-else-not-good : goal.returns-else-not-good
returns-else-not-good c = by_signed _ _ _ _ _ _ _ _ c.in-Key.is c.if-not-good.false _ c.data_accepted.ensures
