use Rattle.loading.proofs.Laws.{below_broken, below_done}
use mathlib.Core.Path.{sym, ◌∙◌}
use Rattle.loading.proofs.read_below.Goals as goal

pub returns-then-not-clock_ok : goal.returns-then-not-clock_ok
returns-then-not-clock_ok c =
    let a = c.args in
    below_broken a.text.now a.from a.c (sym c.clock_ok.ensures ∙ c.if-not-clock_ok.true) a.words.now a.suffixes.now a.named.now

pub walk_lines-requires : goal.walk_lines-requires
walk_lines-requires c = (c.clear.ensures.layout _ c.requires.1, c.requires.2, c.requires.3)

pub returns : goal.returns
returns c =
    let a = c.args in
    below_done a.text.now a.from a.c (sym c.clock_ok.ensures ∙ c.if-not-clock_ok.false) c.clear.ensures c.requires.1 c.walk_lines.ensures
