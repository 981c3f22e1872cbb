-- `inquiries::spell` meets its contract. Assumes nothing.
use Prim.Native.Nat.{ℕ}
use mathlib.Core.Path.{ap}
use mathlib.Core.List.{List, ◌++◌}
use lib.ListN.{length}
use Rattle.model.specs.Names.{key_name}
use Rattle.model.specs.Inquiries.{spelt_in}
use Rattle.inquiries.proofs.Laws.{spells_as}
use Rattle.inquiries.proofs.spell.Goals as goal

pub returns : goal.returns
unfolding key_name
returns c =
    let a = c.args in
    spells_as (ap (λ (head : List ℕ). spelt_in (length a.out.now) (head ++ a.suffix.now)) c.serial_label-n.ensures.1) c.join.ensures
