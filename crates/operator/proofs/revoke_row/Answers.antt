-- `operator::revoke_row` meets its contract. Assumes nothing.
use mathlib.Core.Path.{refl}
use Rattle.outcomes.proofs.Laws.{own_none, own_settled}
use Rattle.operator.proofs.Laws.{row_empty, row_expired, row_revoked}
use Rattle.operator.proofs.revoke_row.Goals as goal

pub returns-then-a-time : goal.returns-then-a-time
returns-then-a-time c = (own_none _ _, λ n own. row_expired _ _ _ n _ _ _ c.pair_of-p.ensures own _ c.adopted_of.ensures _ c.in-Some.is c.if-a-time.true refl)

pub returns-in_default : goal.returns-in_default
returns-in_default c = (own_none _ _, λ n own. row_empty _ _ _ n _ _ _ c.pair_of-p.ensures own _ c.adopted_of.ensures c.in_default.is refl)

pub returns : goal.returns
returns c =
    let w = c.args.words.now in
    let s = c.args.suffixes.now in
    (own_settled c.settle.ensures, λ n own. row_revoked w s _ n _ _ _ c.pair_of-p.ensures own _ c.adopted_of.ensures _ c.in-Some.is c.if-a-time.false c.revoke_in_place.ensures c.settle.ensures)
