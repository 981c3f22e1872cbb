-- `inquiries::find_pair` meets its contract. Assumes nothing.
use Prim.Native.Nat.{◌<◌}
use mathlib.Core.Path.{sym, ap, ◌∙◌}
use Rattle.store.specs.Layout.{table_of}
use Rattle.std.specs.Result.{result_ok}
use Rattle.outcomes.proofs.Laws.{row_few}
use Rattle.inquiries.proofs.Laws.{row_low, named_none, named_row}
use borrow.Author.Rules.{rules}
use Rattle.inquiries.proofs.find_pair.Goals as goal

pub overflow_add-result : goal.overflow_add-result
overflow_add-result c =
    let a = c.args in
    let few : c.in-Ok.row < 64 = row_few a.words.now a.suffixes.now c.requires _ (row_low (table_of a.words.now a.suffixes.now) a.name.now _ (c.find.ensures.says ∙ ap result_ok c.in-Ok.is)) in
    search rules

pub returns-in-Ok : goal.returns-in-Ok
returns-in-Ok c = sym (named_row _ _ _ (c.find.ensures.says ∙ ap result_ok c.in-Ok.is))

pub returns-in-Err : goal.returns-in-Err
returns-in-Err c = c.not_found.ensures ∙ sym (named_none _ _ (c.find.ensures.says ∙ ap result_ok c.in-Err.is))
