-- `ruling::place_fair` meets its contract. Assumes nothing.
use mathlib.Core.Path.{sym, ap, ◌∙◌}
use native.Mathlib.Omega.{arith}
use Rattle.model.specs.Tables.{pair_rule}
use Rattle.store.proofs.Laid.{laid}
use Rattle.ruling.proofs.Laws.{fair_broken, fair_last}
use Rattle.ruling.proofs.place_fair.Goals as goal

pub suffix_at-requires : goal.suffix_at-requires
suffix_at-requires c =
    let l = laid c.args.words.now c.args.suffixes.now c.requires.0 in
    (l.words, l.octets, omega (arith, l.few, c.requires.1), (l.at c.args.place c.requires.1).short)

pub returns-then-not-wire_name : goal.returns-then-not-wire_name
returns-then-not-wire_name c = sym (fair_broken _ _ _ _ c.suffix_at.ensures c.wire_name.ensures c.if-not-wire_name.true)

pub pair_at-requires : goal.pair_at-requires
pair_at-requires c =
    let l = laid c.args.words.now c.args.suffixes.now c.requires.0 in
    (l.words, omega (arith, l.few, c.requires.1))

pub returns : goal.returns
returns c =
    let e = fair_last _ _ _ _ c.suffix_at.ensures c.wire_name.ensures c.if-not-wire_name.false in
    c.pair_rule.ensures ∙ ap (pair_rule _) c.pair_at.ensures ∙ sym e
