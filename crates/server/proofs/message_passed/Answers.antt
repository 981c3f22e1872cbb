-- `server::message_passed` meets its contract. Assumes nothing.
use Rattle.server.proofs.Laws.{found_in, found_ready, found_held, answered_found}
use Rattle.store.specs.Layout.{table_of}
use Rattle.server.proofs.message_passed.Goals as goal

pub owner_of-who-requires : goal.owner_of-who-requires
owner_of-who-requires c =
    (c.requires.layout, found_in c.args.words.now c.args.suffixes.now c.args.m.now c.row_read-found.result c.row_read-found.ensures)

pub suffix_of-suffix-requires : goal.suffix_of-suffix-requires
suffix_of-suffix-requires c =
    (c.requires.layout, found_in c.args.words.now c.args.suffixes.now c.args.m.now c.row_read-found.result c.row_read-found.ensures)

pub message_step-s-requires : goal.message_step-s-requires
message_step-s-requires c =
    let a = c.args in
    (c.read-reading.ensures, found_ready a.words.now a.suffixes.now c.row_read-found.result (found_in a.words.now a.suffixes.now a.m.now c.row_read-found.result c.row_read-found.ensures) c.owner_of-who.ensures c.suffix_of-suffix.ensures _ c.requires)

pub keep-requires : goal.keep-requires
keep-requires c =
    (c.requires.layout, found_in c.args.words.now c.args.suffixes.now c.args.m.now c.row_read-found.result c.row_read-found.ensures, c.message_step-s.ensures.settles)

pub returns : goal.returns
returns c =
    let a = c.args in
    answered_found a.words.now a.suffixes.now a.m.now _ _ _ c.row_read-found.result c.row_read-found.ensures _ (found_held (table_of a.words.now a.suffixes.now) c.row_read-found.result c.owner_of-who.ensures c.suffix_of-suffix.ensures) _ c.message_step-s.ensures _ _ c.keep.ensures
