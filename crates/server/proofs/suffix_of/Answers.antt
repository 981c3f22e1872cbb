-- `server::suffix_of` meets its contract. Assumes nothing.
use mathlib.Core.Path.{ap, sym, subst, ◌∙◌}
use Rattle.store.specs.Layout.{table_of}
use Rattle.server.specs.Serve.{FoundIn, suffix_as}
use Rattle.server.proofs.suffix_of.Goals as goal

pub suffix_of-requires : goal.suffix_of-requires
suffix_of-requires c =
    (c.requires.0, subst (FoundIn (table_of c.args.words.now c.args.suffixes.now)) c.in-Some.is c.requires.1)

pub returns-in-Some : goal.returns-in-Some
returns-in-Some c =
    let a = c.args in
    c.suffix_of.ensures ∙ sym (ap (suffix_as (table_of a.words.now a.suffixes.now)) c.in-Some.is)

pub returns-in-None : goal.returns-in-None
returns-in-None c = let a = c.args in sym (ap (suffix_as (table_of a.words.now a.suffixes.now)) c.in-None.is)
