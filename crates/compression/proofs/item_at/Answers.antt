-- `compression::item_at` meets its contract: the arms are the cases of `octet_at`. Assumes nothing.
use mathlib.Core.Path.{refl, ◌∙◌}
use native.Mathlib.Omega.{arith}
use lib.ListN.{get_or}
use Rattle.model.proofs.Items.{item_none, item_ends, item_refused}
use Rattle.compression.proofs.Steps.{item_of_label, item_of_pointer}
use Rattle.compression.proofs.item_at.Goals as goal

pub returns-then-m-at : goal.returns-then-m-at
returns-then-m-at c =
    let a = c.args in
    item_none a.m.now a.start a.at a.used c.if-m-at.true

pub returns-in-0 : goal.returns-in-0
returns-in-0 c =
    let a = c.args in
    item_ends a.m.now a.start a.at a.used (omega arith) (get_or a.m.now a.at 0) refl c.in-0.is

pub returns-in-1-to-63 : goal.returns-in-1-to-63
returns-in-1-to-63 c =
    let w = c.wide in
    let a = c.args in
    item_of_label a.m.now a.start a.at a.used (omega arith) w.result w.ensures.0 (omega arith) (omega arith) ∙ c.label_at.ensures

pub returns-in-64-to-191 : goal.returns-in-64-to-191
returns-in-64-to-191 c =
    let a = c.args in
    item_refused a.m.now a.start a.at a.used (omega arith) (get_or a.m.now a.at 0) refl (omega arith) (omega arith)

pub returns-in-192-to-255 : goal.returns-in-192-to-255
returns-in-192-to-255 c =
    let a = c.args in
    item_of_pointer a.m.now a.start a.at a.used (omega arith) (get_or a.m.now a.at 0) refl (omega arith) ∙ c.pointer_at.ensures
