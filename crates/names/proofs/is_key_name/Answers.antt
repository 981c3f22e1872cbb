-- `names::is_key_name` meets its contract: the label is the serial's. Assumes nothing.
use mathlib.Core.Path.{ap, ◌∙◌}
use mathlib.Core.List.{List, ◌++◌}
use Prim.Native.Nat.{ℕ}
use Rattle.model.specs.Names.{same_name, key_name}
use Rattle.names.proofs.is_key_name.Goals as goal

pub returns : goal.returns
unfolding key_name
returns c =
    let a = c.args in
    c.is_joined.ensures ∙ ap (λ (x : List ℕ). same_name a.name.now (x ++ a.suffix.now)) c.serial_label-n.ensures.1
