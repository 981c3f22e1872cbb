use Rattle.entries.proofs.Laws.{added_unread, added_again, added_wrong}
use Rattle.entries.proofs.add_key.Goals as goal

pub returns-in-None : goal.returns-in-None
returns-in-None c = rw c.in-None.is (added_unread _)

pub returns-in-Unread : goal.returns-in-Unread
returns-in-Unread c = rw (c.in-Some.is, c.in-Unread.is) (added_again _)

pub returns-in-Wrong : goal.returns-in-Wrong
returns-in-Wrong c = rw (c.in-Some.is, c.in-Wrong.is) (added_wrong _ _)

pub returns-in-Says : goal.returns-in-Says
returns-in-Says c = rw (c.in-Some.is, c.in-Says.is) c.with_key.ensures
