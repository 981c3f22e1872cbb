-- `unsigning::read_back` meets its contract. Assumes nothing.
use mathlib.Core.Logic.{inl, inr}
use Rattle.std.proofs.lemmas.Result.{err_from_is_err_and}
use Rattle.unsigning.proofs.Back.{by_unread, by_none, by_key}
use Rattle.unsigning.proofs.read_back.Goals as goal

pub returns-in_err-c : goal.returns-in_err-c
returns-in_err-c c =
    let p = err_from_is_err_and c.from_residual.result c.from_residual.ensures.1 in
    rw (p.1, p.2) (by_unread _ _ c.read.ensures _ c.in_err-c.was)

pub returns-in-Nobody : goal.returns-in-Nobody
returns-in-Nobody c = by_none _ _ c.read.ensures _ c.in_ok-c.was (inl c.in-Nobody.is)

pub returns-in-Ill : goal.returns-in-Ill
returns-in-Ill c = by_none _ _ c.read.ensures _ c.in_ok-c.was (inr c.in-Ill.is)

pub returns-in-Key : goal.returns-in-Key
returns-in-Key c = by_key _ _ c.read.ensures _ c.in_ok-c.was _ _ c.in-Key.is
