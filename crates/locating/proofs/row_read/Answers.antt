-- `locating::row_read` meets its contract. Assumes nothing.
use mathlib.Core.Path.{refl, sym, ◌∙◌}
use mathlib.Core.Logic.{inl, inr}
use Rattle.locating.proofs.Owners.{owner_unread, owner_is, signer_fits}
use Rattle.locating.proofs.row_read.Goals as goal

pub find_after-requires : goal.find_after-requires
find_after-requires c =
    (c.requires.0, (signer_fits _ c.requires.1 c.in-Ok.is c.in-Key.is).0)

pub returns-in-Err : goal.returns-in-Err
returns-in-Err c = owner_unread _ _ _ c.requires.1 _ c.in-Err.is

pub returns-in-Nobody : goal.returns-in-Nobody
returns-in-Nobody c =
    elim c.in-Nobody.is [
      | inl e ↦ owner_is _ _ _ c.requires.1 _ c.in-Ok.is _ e _ refl
      | inr e ↦ owner_is _ _ _ c.requires.1 _ c.in-Ok.is _ e _ refl
    ]

pub returns-in-Key : goal.returns-in-Key
returns-in-Key c =
    owner_is _ _ _ c.requires.1 _ c.in-Ok.is _ c.in-Key.is _ (c.find_after.ensures.says ∙ sym c.ok.ensures.value)
