-- `capi_resolver::luffcringle_resolver_renewal` meets its contract. Assumes nothing.
use mathlib.Core.Path.{ap, ◌∙◌}
use Rattle.std.specs.Result.{result_ok}
use Rattle.capi_resolver.proofs.Laws.{renewal_unknown, renewal_known}
use Rattle.capi_resolver.proofs.luffcringle_resolver_renewal.Goals as goal

pub returns-in-Err : goal.returns-in-Err
returns-in-Err c = renewal_unknown _ _ _ _ _ _ _ _ _ _ _ (c.try_from.ensures ∙ ap result_ok c.in-Err.is) c.tell_sent.ensures

pub returns-in-Ok : goal.returns-in-Ok
returns-in-Ok c = renewal_known _ _ _ _ _ _ _ _ _ _ _ _ _ _ _ _ (c.try_from.ensures ∙ ap result_ok c.in-Ok.is) c.renewal_of.ensures
