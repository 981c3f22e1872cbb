-- `capi_resolver::luffcringle_resolver_hold` meets its contract. Assumes nothing.
use Rattle.names.proofs.Wire.{wire_short}
use mathlib.Core.Path.{sym, ap, ◌∙◌}
use Rattle.std.specs.Result.{result_ok}
use Rattle.capi_resolver.proofs.Laws.{no_name, no_algorithm, holding}
use Rattle.capi_resolver.proofs.luffcringle_resolver_hold.Goals as goal

pub returns-then-not-wire_name : goal.returns-then-not-wire_name
returns-then-not-wire_name c = no_name _ _ _ _ _ _ (sym c.wire_name.ensures ∙ c.if-not-wire_name.true)

pub key_named-k-requires : goal.key_named-k-requires
key_named-k-requires c = wire_short _ (sym c.wire_name.ensures ∙ c.if-not-wire_name.false)

pub returns-in-Err : goal.returns-in-Err
returns-in-Err c = no_algorithm _ _ _ _ _ _ (sym c.wire_name.ensures ∙ c.if-not-wire_name.false) (c.try_from.ensures ∙ ap result_ok c.in-Err.is)

pub returns-in-Ok : goal.returns-in-Ok
returns-in-Ok c =
    holding _ _ _ _ _ _ (sym c.wire_name.ensures ∙ c.if-not-wire_name.false) _ (c.try_from.ensures ∙ ap result_ok c.in-Ok.is) _ _ _ _
    c.key_named-k.ensures c.starting_with.ensures c.store.ensures
