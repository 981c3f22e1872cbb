-- `receiving::tsig_read` meets its contract. Assumes nothing.
use Rattle.std.proofs.lemmas.Result.{err_from_is_err_and}
use Rattle.receiving.proofs.Parts.{told_none, told_parts}
use Rattle.receiving.proofs.tsig_read.Goals as goal

pub returns-in_err-place : goal.returns-in_err-place
returns-in_err-place c =
    let p = err_from_is_err_and c.from_residual.result c.from_residual.ensures.1 in
    rw (p.1, p.2) (told_none _ _ c.read_back.ensures _ _ _ c.in_err-place.was)

pub returns : goal.returns
returns c = told_parts _ _ c.read_back.ensures _ _ _ c.in_ok-place.was _ c.part_of.ensures.0 c.name_into-named.ensures c.all_into.ensures.1
