use Rattle.loading.proofs.Laws.{insertable, settled_kept, settled_dropped}
use lib.Seq.{length-take-le}
use mathlib.Core.Path.{sym}
use Rattle.loading.proofs.settle.Goals as goal

pub slice_bounds-insert-end : goal.slice_bounds-insert-end
slice_bounds-insert-end c =
    sym (length-take-le _ _ (insertable c.args.words.now c.args.suffixes.now c.args.suffix.now c.args.named.now c.args.w c.requires.0 _ c.judge.ensures _ c.in-Ok.is).0)

pub insert-requires : goal.insert-requires
insert-requires c =
    (insertable c.args.words.now c.args.suffixes.now c.args.suffix.now c.args.named.now c.args.w c.requires.0 _ c.judge.ensures _ c.in-Ok.is).1

pub returns-in-Ok : goal.returns-in-Ok
returns-in-Ok c =
    settled_kept c.args.words.now c.args.suffixes.now c.args.suffix.now c.args.named.now c.args.w c.requires.0 _ c.judge.ensures _ c.in-Ok.is c.insert.ensures

pub returns-in-Err : goal.returns-in-Err
returns-in-Err c =
    settled_dropped c.args.words.now c.args.suffixes.now c.args.suffix.now c.args.named.now c.args.w c.requires.0 _ c.judge.ensures _ c.in-Err.is c.name_lines.ensures
