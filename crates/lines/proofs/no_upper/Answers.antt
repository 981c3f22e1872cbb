-- `lines::no_upper` meets its contract. Assumes nothing.
use mathlib.Core.Path.{◌≡◌}
use mathlib.Core.Bool.{true, false}
use borrow.Author.Rules.{rules}
use borrow.Author.Tests.{tests}
use Rattle.std.proofs.lemmas.Iterator.{cases_from_all, YieldsList-from_slice}
use Rattle.lines.specs.Fields.{is_upper}
use Rattle.lines.proofs.Laws.{no_upper_by}
use Rattle.lines.proofs.no_upper.Goals as goal

pub returns : goal.returns
returns c =
    no_upper_by c.args.w.now c.all.result
    (cases_from_all _ _ _ (λ x. is_upper x ≡ false) (λ x. is_upper x ≡ true) c.all.ensures.ran (YieldsList-from_slice c.args.w.now cc) (λ x q k. search (rules, tests)) (λ x q k. search (rules, tests)))
