-- `capi_resolver::tell_heard` meets its contract. Assumes nothing.
use mathlib.Core.Path.{refl}
use Rattle.capi_resolver.proofs.tell_heard.Goals as goal

pub returns-in-None : goal.returns-in-None
returns-in-None c = rw (c.due_word-word.ensures, c.in-None.is) refl

pub returns-in-Some : goal.returns-in-Some
returns-in-Some c = rw (c.due_word-word.ensures, c.in-Some.is) refl
