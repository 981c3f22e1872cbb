-- `batches::serve_item` meets its contract. Assumes nothing.
use Rattle.batches.proofs.Laws.{item_shows}
use Rattle.batches.proofs.serve_item.Goals as goal

pub returns : goal.returns
returns c =
    let a = c.args in
    let m = c.part_of-message in
    let o = c.part_of-offer in
    let z = c.part_of-second in
    item_shows a.octets.now a.x m.result.now o.result.now z.result.now _ _ _ _ _ _ m.ensures.0 o.ensures.0 z.ensures.0 c.message_ruled.ensures
