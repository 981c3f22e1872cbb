-- `inquiries::key_name_in` meets its contract. Assumes nothing.
use Prim.Native.Nat.{ℕ}
use mathlib.Core.Path.{sym, ap, ◌∙◌}
use mathlib.Core.List.{List}
use lib.ListN.{length}
use Rattle.model.specs.Names.{key_name}
use Rattle.model.specs.Inquiries.{spelt_in}
use Rattle.store.specs.Layout.{table_of}
use Rattle.outcomes.proofs.Laws.{rules_layout, suffix_short}
use Rattle.inquiries.proofs.Laws.{spells_refused, never_issued, issued_passes, issued_short, spells_as}
use Rattle.inquiries.proofs.key_name_in.Goals as goal

pub pair_of-requires : goal.pair_of-requires
pair_of-requires c = (rules_layout _ _ c.requires.0, c.requires.1)

pub returns-then-not-below_next : goal.returns-then-not-below_next
returns-then-not-below_next c =
    let a = c.args in
    let t = table_of a.words.now a.suffixes.now in
    spells_refused a.out.now 10 (never_issued t _ _ _ _ c.pair_of.ensures c.below_next.ensures c.if-not-below_next.true) c.not_spelt.ensures

pub suffix_of-requires : goal.suffix_of-requires
suffix_of-requires c = (rules_layout _ _ c.requires.0, c.requires.1)

pub spell-requires : goal.spell-requires
spell-requires c =
    let a = c.args in
    let t = table_of a.words.now a.suffixes.now in
    let short = suffix_short a.words.now a.suffixes.now (rules_layout _ _ c.requires.0) _ c.requires.1 in
    (issued_short t _ 0 _ _ c.pair_of.ensures c.below_next.ensures c.if-not-below_next.false c.requires.0 c.requires.1, rw c.suffix_of.ensures short)

pub returns : goal.returns
returns c =
    let a = c.args in
    let t = table_of a.words.now a.suffixes.now in
    let room = length a.out.now in
    let named = ap (λ (x : List ℕ). spelt_in room (key_name a.serial x)) c.suffix_of.ensures in
    spells_as (named ∙ sym (issued_passes t _ room _ _ c.pair_of.ensures c.below_next.ensures c.if-not-below_next.false)) c.spell.ensures
