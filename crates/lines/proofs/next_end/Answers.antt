-- `lines::next_end` meets its contract: behind a tab stands a field, behind anything else none. Assumes nothing.
use mathlib.Core.Path.{◌≡◌}
use native.Mathlib.Omega.{arith}
use Rattle.std.proofs.lemmas.Option.{same_Some}
use Rattle.lines.proofs.Steps.{past_end, no_tab, tab}
use borrow.Author.Rules.{rules}
use Rattle.lines.proofs.next_end.Goals as goal

pub returns-then-line-at : goal.returns-then-line-at
returns-then-line-at c = record { says = past_end _ _ c.if-line-at.true; bound = λ next e. grind arith }

pub returns-then-line-at-eq9 : goal.returns-then-line-at-eq9
returns-then-line-at-eq9 c =
    let e = c.field_end in
    let a = c.args in
    record {
      says = tab a.line.now a.at (search rules) c.if-line-at-eq9.true e.result e.ensures.ends;
      bound = λ next is. let same : e.result ≡ next = same_Some _ _ is in (omega arith, omega arith);
    }

pub returns : goal.returns
returns c = record { says = no_tab _ _ (search rules) c.if-line-at-eq9.false; bound = λ next e. grind arith }
