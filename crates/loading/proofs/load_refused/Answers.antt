use mathlib.Core.Path.{ap, ◌∙◌}
use Rattle.std.specs.Prelude.{Option}
use Prim.Native.Nat.{ℕ}
use Rattle.model.specs.Loading.{no_rule}
use Rattle.model.proofs.Forward.{loaded_from}
use Rattle.loading.specs.Loads.{end_of}
use Rattle.loading.proofs.Ends.{refused_table, refused_line}
use Rattle.loading.proofs.load_refused.Goals as goal

pub returns-in-Some : goal.returns-in-Some
returns-in-Some c = refused_line c.in-Some.n ∙ ap (λ (n : Option ℕ). end_of (loaded_from n no_rule)) c.in-Some.ensures

pub returns-in-None : goal.returns-in-None
returns-in-None c = refused_table ∙ ap (λ (n : Option ℕ). end_of (loaded_from n no_rule)) c.in-None.ensures
