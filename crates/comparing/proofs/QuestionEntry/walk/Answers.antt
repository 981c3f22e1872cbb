-- `comparing::question_fields` meets its contract. Assumes nothing.
use Rattle.comparing.proofs.Walking.{question_other, question_differs, question_same}
use Rattle.comparing.proofs.QuestionEntry.walk.Goals as goal

pub returns-then-not-same_names_at : goal.returns-then-not-same_names_at
returns-then-not-same_names_at c =
    question_other _ _ _ _ _ _ _ c.requires.0.0 c.requires.1.0 _ c.same_names_at.ensures c.if-not-same_names_at.true

pub returns-in-None : goal.returns-in-None
returns-in-None c =
    question_same _ _ _ _ _ _ _ c.requires.0.0 c.requires.1.0 _ c.same_names_at.ensures c.if-not-same_names_at.false
    c.fields.result c.fields.ensures c.in-None.is

pub returns-in-Some : goal.returns-in-Some
returns-in-Some c =
    question_differs _ _ _ _ _ _ _ c.requires.0.0 c.requires.1.0 _ c.same_names_at.ensures c.if-not-same_names_at.false
    c.fields.result c.fields.ensures _ c.in-Some.is
