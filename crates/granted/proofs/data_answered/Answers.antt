-- `granted::data_answered` meets its contract. Assumes nothing.
use Rattle.granted.proofs.Laws.{by_answer}
use Rattle.granted.proofs.data_answered.Goals as goal

pub returns : goal.returns
returns c = by_answer _ _ _ c.answer_tkey.ensures _ c.data_kept.ensures
