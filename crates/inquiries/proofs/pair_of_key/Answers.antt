-- `inquiries::pair_of_key` meets its contract. Assumes nothing.
use mathlib.Core.Path.{sym, ap, ◌∙◌}
use Rattle.model.specs.Inquiries.{pair_named}
use Rattle.store.specs.Layout.{table_of}
use Rattle.outcomes.proofs.Laws.{rules_layout}
use Rattle.inquiries.proofs.Laws.{kept, key_broken, key_unnamed, key_passes}
use Rattle.inquiries.proofs.pair_of_key.Goals as goal

pub returns-then-not-rules_ok : goal.returns-then-not-rules_ok
returns-then-not-rules_ok c = c.not_found.ensures ∙ sym (key_broken _ _ c.rules_ok.ensures c.if-not-rules_ok.true _)

pub returns-then-not-wire_name : goal.returns-then-not-wire_name
returns-then-not-wire_name c = c.not_found-then-not-wire_name.ensures ∙ sym (key_unnamed _ _ c.rules_ok.ensures c.if-not-rules_ok.false _ _ c.wire_name.ensures c.if-not-wire_name.true)

pub find_pair-requires : goal.find_pair-requires
find_pair-requires c = rules_layout _ _ (kept _ _ c.rules_ok.ensures c.if-not-rules_ok.false)

pub returns : goal.returns
returns c =
    let t = table_of c.args.words.now c.args.suffixes.now in
    c.find_pair.ensures
    ∙ ap (pair_named t) c.after_label.ensures
    ∙ sym (key_passes t _ c.rules_ok.ensures c.if-not-rules_ok.false _ _ c.wire_name.ensures c.if-not-wire_name.false)
