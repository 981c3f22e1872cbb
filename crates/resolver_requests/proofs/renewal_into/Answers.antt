-- `resolver_requests::renewal_into` meets its contract. Assumes nothing.
use mathlib.Core.Path.{ap, sym, ◌∙◌}
use Rattle.std.specs.Prelude.{option_copied}
use Rattle.std.proofs.lemmas.Result.{err_from_is_err_and}
use Rattle.names.proofs.Wire.{wire_short}
use Rattle.resolver_requests.proofs.Sent.{no_key, renewal_unnamed, renewal_no_key, renewal_refused, renewal_sent}
use Rattle.resolver_requests.proofs.renewal_into.Goals as goal

pub returns-then-not-wire_name : goal.returns-then-not-wire_name
returns-then-not-wire_name c =
    renewal_unnamed _ _ _ _ _ _ _ _ _ c.root_or-named.ensures (sym c.wire_name.ensures ∙ c.if-not-wire_name.true)

pub returns-then-not-is_key_record : goal.returns-then-not-is_key_record
returns-then-not-is_key_record c =
    renewal_no_key _ _ _ _ _ _ _ _ _ c.root_or-named.ensures (sym c.wire_name.ensures ∙ c.if-not-wire_name.false)
    (sym c.is_key_record.ensures ∙ c.if-not-is_key_record.true)

pub returns-in_err-adopted : goal.returns-in_err-adopted
returns-in_err-adopted c =
    let p = err_from_is_err_and c.from_residual.result c.from_residual.ensures.1 in
    rw (p.1, p.2, no_key _ _ (sym c.in_err-adopted.ensures.value) c.in_err-adopted.ensures.ok_part)
    (renewal_refused _ _ _ _ _ _ _ _ _ c.root_or-named.ensures (sym c.wire_name.ensures ∙ c.if-not-wire_name.false)
    (sym c.is_key_record.ensures ∙ c.if-not-is_key_record.false) (sym c.adopted_key.ensures ∙ ap option_copied c.in_err-adopted.ensures.ok_part))

pub renewal-requires : goal.renewal-requires
renewal-requires c = (wire_short _ (sym c.wire_name.ensures ∙ c.if-not-wire_name.false), c.name_of.ensures.1)

pub returns : goal.returns
returns c =
    renewal_sent _ _ _ _ _ _ _ _ _ c.root_or-named.ensures (sym c.wire_name.ensures ∙ c.if-not-wire_name.false)
    (sym c.is_key_record.ensures ∙ c.if-not-is_key_record.false) _ (sym c.adopted_key.ensures ∙ ap option_copied c.in_ok-adopted.ensures.ok_part)
    _ c.name_of.ensures.0 _ _ _ c.renewal.ensures c.ok_or-2.ensures.value
