-- `words::nibble_of` meets its contract. Assumes nothing.
use Rattle.words.proofs.Laws.{nibble_is}
use Rattle.words.proofs.nibble_of.Goals as goal

pub returns-clause-value : goal.returns-clause-value
returns-clause-value c = rw c.from.ensures at (nibble_is c.from.result c.to_digit.result c.to_digit.ensures.value)
