-- `names::same_octet` meets its contract. Assumes nothing.
use mathlib.Core.Path.{ap, ap₂, sym, ◌∙◌}
use borrow.Author.Tests.{eq-eqb}
use lib.Dec.{eqb}
use Rattle.model.specs.Names.{lower_of}
use Rattle.names.proofs.Cases.{lowered}
use Rattle.names.proofs.same_octet.Goals as goal

pub returns-then-p-q : goal.returns-then-p-q
returns-then-p-q c = eq-eqb _ _ c.if-p-q.true ∙ sym (eq-eqb _ _ (ap lower_of c.if-p-q.true))

pub returns-else-p-q : goal.returns-else-p-q
returns-else-p-q c = c.eq_ignore_ascii_case.ensures ∙ ap₂ eqb (lowered c.args.p) (lowered c.args.q)
