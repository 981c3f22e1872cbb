-- `batches::batch_ok` meets its contract. Assumes nothing.
use mathlib.Core.Path.{refl, ◌∙◌}
use Rattle.batches.proofs.Laws.{ok_many, ok_items}
use Rattle.batches.proofs.batch_ok.Goals as goal

pub returns-then-count-gt64 : goal.returns-then-count-gt64
returns-then-count-gt64 c = ok_many _ _ _ c.if-count-gt64.true

pub returns : goal.returns
returns c =
    c.items_inside.ensures c.args.octets.now refl ∙ ok_items _ _ _ c.if-count-gt64.false
