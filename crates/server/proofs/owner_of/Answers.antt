-- `server::owner_of` meets its contract. Assumes nothing.
use Prim.Native.Nat.{◌+◌, ◌<◌}
use mathlib.Core.Path.{ap, sym, subst, ◌∙◌}
use Rattle.std.specs.Prelude.{Some}
use Rattle.model.specs.declared.Pair.{Pair}
use Rattle.store.specs.Layout.{table_of}
use Rattle.outcomes.proofs.Laws.{row_few}
use Rattle.server.specs.Serve.{FoundIn, owner_as}
use borrow.Author.Rules.{rules}
use Rattle.server.proofs.owner_of.Goals as goal

pub pair_of-pair-requires : goal.pair_of-pair-requires
pair_of-pair-requires c =
    (c.requires.0, subst (FoundIn (table_of c.args.words.now c.args.suffixes.now)) c.in-Some.is c.requires.1)

pub overflow_add-result : goal.overflow_add-result
overflow_add-result c =
    let a = c.args in
    let h : c.in-Some.row < 64 = row_few a.words.now a.suffixes.now c.requires.0 _ (subst (FoundIn (table_of a.words.now a.suffixes.now)) c.in-Some.is c.requires.1) in
    search rules

pub returns-in-Some : goal.returns-in-Some
returns-in-Some c =
    let a = c.args in
    ap (λ (p : Pair). Some (record { number = c.in-Some.row + 1; pair = p })) c.pair_of-pair.ensures ∙ sym (ap (owner_as (table_of a.words.now a.suffixes.now)) c.in-Some.is)

pub returns-in-None : goal.returns-in-None
returns-in-None c = let a = c.args in sym (ap (owner_as (table_of a.words.now a.suffixes.now)) c.in-None.is)
