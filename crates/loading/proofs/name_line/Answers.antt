use Rattle.loading.proofs.Laws.{named_short, named_one}
use Rattle.loading.proofs.name_line.Goals as goal

pub returns-then-named-before : goal.returns-then-named-before
returns-then-named-before c = named_short _ _ _ _ c.if-named-before.true

pub returns : goal.returns
returns c = named_one _ _ _ c.word_into-next.ensures.1 c.word_into.ensures.1
