-- `messages::answer_tkey` meets its contract. Assumes nothing.
use Rattle.messages.proofs.Answers.{answers_stop, answers_kept}
use borrow.Author.Rules.{rules}
use Rattle.messages.proofs.answer_tkey.Goals as goal

pub returns-in-Err : goal.returns-in-Err
returns-in-Err c = answers_stop _ (search rules) _ _ (rw (c.u16_at.ensures.0, c.no_notes.ensures, c.in-Err.is) at c.records.ensures)

pub returns-in-Ok : goal.returns-in-Ok
returns-in-Ok c = answers_kept _ (search rules) _ _ _ (rw (c.u16_at.ensures.0, c.no_notes.ensures, c.in-Ok.is) at c.records.ensures)
