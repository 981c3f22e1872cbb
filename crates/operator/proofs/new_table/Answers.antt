-- `operator::new_table` meets its contract. Assumes nothing.
use Rattle.operator.proofs.Laws.{made_words, made_octets, made_late, made_done}
use Rattle.operator.proofs.new_table.Goals as goal

pub returns-then-words-ne1091 : goal.returns-then-words-ne1091
returns-then-words-ne1091 c = made_words _ _ _ _ c.answered.ensures c.if-words-ne1091.true

pub returns-then-suffixes-ne8192 : goal.returns-then-suffixes-ne8192
returns-then-suffixes-ne8192 c = made_octets _ _ _ _ c.answered-then-suffixes-ne8192.ensures c.if-suffixes-ne8192.true

pub returns-then-time-ge281472829227008 : goal.returns-then-time-ge281472829227008
returns-then-time-ge281472829227008 c = made_late _ _ _ _ c.if-words-ne1091.false c.if-suffixes-ne8192.false c.answered-then-time-ge281472829227008.ensures c.if-time-ge281472829227008.true

pub returns : goal.returns
returns c = made_done _ _ _ _ c.if-words-ne1091.false c.if-suffixes-ne8192.false c.clear.ensures c.finished.ensures c.if-time-ge281472829227008.false
