-- `tkey::read_old` meets its contract. Assumes nothing.
use Rattle.tkey.proofs.OldLaws.{old_named_lem, old_free}
use Rattle.tkey.proofs.read_old.Goals as goal

pub returns-then-renews_or_adopts : goal.returns-then-renews_or_adopts
returns-then-renews_or_adopts c =
    old_named_lem _ _ _ _ _ c.mode_of.ensures c.renews_or_adopts.ensures c.if-renews_or_adopts.true _
    c.old_names.ensures

pub returns-else-renews_or_adopts : goal.returns-else-renews_or_adopts
returns-else-renews_or_adopts c = old_free _ _ _ _ _ c.mode_of.ensures c.renews_or_adopts.ensures c.if-renews_or_adopts.false
