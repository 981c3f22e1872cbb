use Rattle.loading.proofs.Laws.{turned_key, turned_other}
use mathlib.Core.Path.{sym, ◌∙◌}
use Rattle.loading.proofs.turn.Goals as goal

pub returns-then-is_key_line : goal.returns-then-is_key_line
returns-then-is_key_line c =
    turned_key c.args.words.now c.args.suffixes.now c.args.suffix.now c.args.named.now c.args.line.now c.args.w c.requires.0 c.requires.2 (sym c.is_key_line.ensures ∙ c.if-is_key_line.true) c.add_line.ensures

pub returns : goal.returns
returns c =
    turned_other c.args.words.now c.args.suffixes.now c.args.suffix.now c.args.named.now c.args.line.now c.args.w (sym c.is_key_line.ensures ∙ c.if-is_key_line.false) c.settle-dropped.ensures c.start_pair.ensures
