-- `answers::answer_by` meets its contract. Assumes nothing.
use Rattle.answers.proofs.AnswerLaws.{by_once}
use Rattle.answers.proofs.answer_by.Goals as goal

pub returns-in-Once : goal.returns-in-Once
returns-in-Once c = by_once _ _ _ _ _ c.in-Once.is _ c.answer_at.ensures
