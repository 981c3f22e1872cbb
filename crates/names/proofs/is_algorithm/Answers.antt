-- `names::is_algorithm` meets its contract. Assumes nothing.
use mathlib.Core.Path.{sym, ap, ◌∙◌}
use borrow.Author.Tests.{ne_eqb}
use Rattle.model.specs.Names.{same_name}
use Rattle.names.proofs.Same.{apart}
use Rattle.names.proofs.Fronts.{itself, thirteen}
use Rattle.names.proofs.is_algorithm.Goals as goal

pub returns-then-is_spelt_as : goal.returns-then-is_spelt_as
returns-then-is_spelt_as c =
    let n = c.args.name.now in
    c.if-is_spelt_as.true ∙ sym (ap (same_name n) (sym (c.is_spelt_as.ensures c.if-is_spelt_as.true)) ∙ itself n)

pub returns-else-name-eq13 : goal.returns-else-name-eq13
returns-else-name-eq13 c = ne_eqb _ _ c.if-name-eq13.false ∙ sym (apart _ _ (λ l. c.if-name-eq13.false (l ∙ thirteen c.args.g)))
