-- `tkey::tkey_by` meets its contract. Assumes nothing.
use Rattle.tkey.proofs.RecordLaws.{by_other, by_third}
use Rattle.tkey.proofs.tkey_by.Goals as goal

pub returns-then-section-eq3 : goal.returns-then-section-eq3
returns-then-section-eq3 c = by_third _ _ _ _ c.in-Once.is c.if-section-eq3.true _ c.tkey_at.ensures

pub returns-else-section-eq3 : goal.returns-else-section-eq3
returns-else-section-eq3 c = by_other _ _ _ _ c.in-Once.is c.if-section-eq3.false
