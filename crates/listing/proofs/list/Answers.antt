-- `listing::list` meets its contract. Assumes nothing.
use mathlib.Core.Path.{refl, sym, ◌∙◌}
use borrow.Author.Tests.{leb-true}
use Rattle.listing.proofs.Laws.{ends_bad, ends_long, ends_listed}
use Rattle.listing.proofs.list.Goals as goal

pub returns-then-not-rules_ok : goal.returns-then-not-rules_ok
returns-then-not-rules_ok c = record { says = ends_bad _ _ (sym c.rules_ok.ensures ∙ c.if-not-rules_ok.true); left = refl }

pub has_room-requires : goal.has_room-requires
has_room-requires c = sym c.rules_ok.ensures ∙ c.if-not-rules_ok.false

pub returns-then-not-has_room : goal.returns-then-not-has_room
returns-then-not-has_room c = record { says = ends_long _ _ (sym c.rules_ok.ensures ∙ c.if-not-rules_ok.false) (sym c.has_room.ensures ∙ c.if-not-has_room.true); left = refl }

pub list_into-requires : goal.list_into-requires
list_into-requires c = (sym c.rules_ok.ensures ∙ c.if-not-rules_ok.false, leb-true _ _ (sym c.has_room.ensures ∙ c.if-not-has_room.false))

pub returns : goal.returns
returns c = record { says = ends_listed _ _ (sym c.rules_ok.ensures ∙ c.if-not-rules_ok.false) (sym c.has_room.ensures ∙ c.if-not-has_room.false); left = c.list_into.ensures }
