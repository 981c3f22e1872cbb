-- `resolver_requests::deletion_into` meets its contract. Assumes nothing.
use mathlib.Core.Path.{ap, sym, ◌∙◌}
use Rattle.std.specs.Prelude.{option_copied}
use Rattle.std.proofs.lemmas.Result.{err_from_is_err_and}
use Rattle.resolver_requests.proofs.Sent.{no_key, deletion_refused, deletion_sent}
use Rattle.resolver_requests.proofs.deletion_into.Goals as goal

pub returns-in_err-adopted : goal.returns-in_err-adopted
returns-in_err-adopted c =
    let p = err_from_is_err_and c.from_residual.result c.from_residual.ensures.1 in
    rw (p.1, p.2, no_key _ _ (sym c.in_err-adopted.ensures.value) c.in_err-adopted.ensures.ok_part)
    (deletion_refused _ _ _ (sym c.adopted_key.ensures ∙ ap option_copied c.in_err-adopted.ensures.ok_part))

pub returns : goal.returns
returns c =
    deletion_sent _ _ _ _ (sym c.adopted_key.ensures ∙ ap option_copied c.in_ok-adopted.ensures.ok_part) _ c.name_of.ensures.0 _ _ _
    c.ok_or-2.ensures.value c.deletion.ensures
