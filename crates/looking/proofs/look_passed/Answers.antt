-- `looking::look_passed` meets its contract. Assumes nothing.
use Prim.Native.Nat.{◌<◌}
use mathlib.Core.Path.{refl, ◌∙◌}
use Rattle.store.specs.Layout.{table_of}
use Rattle.locating.proofs.Owners.{row_in, row_held}
use Rattle.outcomes.proofs.Laws.{row_few}
use Rattle.looking.proofs.Laws.{row_ruled, looks}
use borrow.Author.Rules.{rules}
use Rattle.looking.proofs.look_passed.Goals as goal

pub pair_of-pair-requires : goal.pair_of-pair-requires
pair_of-pair-requires c =
    let a = c.args in
    (c.requires.layout, row_in a.words.now a.suffixes.now a.message.now _ (c.row_read.ensures ∙ c.in-Some.is))

pub suffix_of-suffix-requires : goal.suffix_of-suffix-requires
suffix_of-suffix-requires c =
    let a = c.args in
    (c.requires.layout, row_in a.words.now a.suffixes.now a.message.now _ (c.row_read.ensures ∙ c.in-Some.is))

pub overflow_add-who : goal.overflow_add-who
overflow_add-who c =
    let a = c.args in
    let h : c.in-Some.row < 64 = row_few a.words.now a.suffixes.now c.requires.layout _ (row_in a.words.now a.suffixes.now a.message.now _ (c.row_read.ensures ∙ c.in-Some.is)) in
    search rules

pub look_step-requires : goal.look_step-requires
look_step-requires c =
    let a = c.args in
    (c.read-reading.ensures, row_ruled a.words.now a.suffixes.now c.requires _ (row_in a.words.now a.suffixes.now a.message.now _ (c.row_read.ensures ∙ c.in-Some.is)) c.pair_of-pair.ensures)

pub returns-in-Some : goal.returns-in-Some
returns-in-Some c =
    let a = c.args in
    looks a.words.now a.suffixes.now a.message.now _ (c.row_read.ensures ∙ c.in-Some.is) _ (row_held (table_of a.words.now a.suffixes.now) _ c.pair_of-pair.ensures c.suffix_of-suffix.ensures) _ c.look_step.ensures

pub returns-in-None : goal.returns-in-None
returns-in-None c =
    let a = c.args in
    looks a.words.now a.suffixes.now a.message.now _ (c.row_read.ensures ∙ c.in-None.is) _ refl _ c.look_step-in-None.ensures
