-- `tsig::signed_by` meets its contract. Assumes nothing.
use Rattle.tsig.proofs.SignerLaws.{by_other, by_third}
use Rattle.tsig.proofs.signed_by.Goals as goal

pub signed_at-requires : goal.signed_at-requires
signed_at-requires c = rw c.in-Once.is at c.requires

pub returns-then-section-eq3 : goal.returns-then-section-eq3
returns-then-section-eq3 c = by_third _ _ _ _ c.in-Once.is c.if-section-eq3.true _ c.signed_at.ensures

pub returns-else-section-eq3 : goal.returns-else-section-eq3
returns-else-section-eq3 c = by_other _ _ _ _ c.in-Once.is c.if-section-eq3.false
