-- `operator::issue_row` meets its contract. Assumes nothing.
use mathlib.Core.Path.{refl, ap, ◌∙◌}
use Rattle.std.specs.Result.{result_ok}
use Rattle.outcomes.proofs.Laws.{own_none, own_settled}
use Rattle.operator.proofs.Laws.{row_spent, row_term, row_issued, row_fits}
use Rattle.pairs.proofs.Fit.{issued_fits}
use Rattle.operator.proofs.issue_row.Goals as goal

pub returns-then-serial-ge4294967296 : goal.returns-then-serial-ge4294967296
returns-then-serial-ge4294967296 c = (own_none _ _, λ n own. row_spent _ _ _ n _ _ _ c.pair_of-p.ensures own _ c.if-serial-ge4294967296.true refl)

pub returns : goal.returns
returns c =
    let w = c.args.words.now in
    let s = c.args.suffixes.now in
    (own_settled c.settle.ensures, λ n own. row_issued w s _ n _ _ _ c.pair_of-p.ensures own _ c.if-serial-ge4294967296.false _ (c.try_from.ensures ∙ ap result_ok c.in-Ok.is) (c.issue_in_place.ensures ∙ issued_fits _ _ _ (row_fits w s _ c.requires.0 _ c.requires.1 c.pair_of-p.ensures)) c.settle.ensures)

pub returns-in_default : goal.returns-in_default
returns-in_default c = (own_none _ _, λ n own. row_term _ _ _ n _ _ _ c.pair_of-p.ensures own _ c.if-serial-ge4294967296.false (c.try_from.ensures ∙ ap result_ok c.in_default.is) refl)
