-- `replies::reply` meets its contract. Assumes nothing.
use mathlib.Core.Path.{sym, ◌∙◌}
use Rattle.replies.proofs.Answers.{quiet_replies}
use Rattle.replies.proofs.reply.Goals as goal

pub returns-then-is_quiet : goal.returns-then-is_quiet
returns-then-is_quiet c = let a = c.args in quiet_replies a.d a.buf.now (sym c.is_quiet.ensures ∙ c.if-is_quiet.true)
