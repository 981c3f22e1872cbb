-- `server::keep` meets its contract. Assumes nothing.
use mathlib.Core.Path.{subst}
use Rattle.store.specs.Layout.{table_of}
use Rattle.server.specs.Serve.{FoundIn}
use Rattle.server.proofs.Laws.{kept_row, kept_none}
use Rattle.server.proofs.keep.Goals as goal

pub keep_row-requires : goal.keep_row-requires
keep_row-requires c =
    (c.requires.0, subst (FoundIn (table_of c.args.words.now c.args.suffixes.now)) c.in-Some.is c.requires.1, c.requires.2)

pub returns-in-Some : goal.returns-in-Some
returns-in-Some c = kept_row c.in-Some.is c.keep_row.ensures

pub returns-in-None : goal.returns-in-None
returns-in-None c = kept_none c.in-None.is
