use mathlib.Core.Path.{sym, ap, ◌∙◌}
use Rattle.std.specs.Prelude.{Ok}
use Rattle.loading.proofs.Ends.{same_count, not_both, load_not_whole, load_whole}
use Rattle.loading.proofs.load.Goals as goal

pub returns-in_default : goal.returns-in_default
returns-in_default c = load_not_whole _ _ _ _ _ _ _ c.read_into.ensures (λ e. not_both e c.in_default.is) c.load_refused.ensures

pub returns-then-dropped-ne0 : goal.returns-then-dropped-ne0
returns-then-dropped-ne0 c = load_not_whole _ _ _ _ _ _ _ c.read_into.ensures (λ e. c.if-dropped-ne0.true (sym (same_count e c.in-Ok.is))) c.load_refused-then-dropped-ne0.ensures

pub returns : goal.returns
returns c = load_whole _ _ _ _ _ _ _ c.read_into.ensures (c.in-Ok.is ∙ ap Ok c.if-dropped-ne0.false) c.keep.ensures
