-- `ruling::rules_ok` meets its contract. The loop's invariant: the rules are what is left of them from the place q on. Assumes nothing.
use mathlib.Core.Path.{sym, ◌∙◌}
use native.Mathlib.Nat.{sub-zero}
use native.Mathlib.Omega.{arith}
use Rattle.store.proofs.Laid.{laid}
use Rattle.checking.proofs.Laws.{all_end, all_stop, all_next}
use Rattle.ruling.proofs.Laws.{broken_layout, unfair, by_places}
use Rattle.ruling.proofs.rules_ok.Goals as goal

pub returns-then-not-layout_ok : goal.returns-then-not-layout_ok
returns-then-not-layout_ok c = sym (broken_layout _ _ (sym c.layout_ok.ensures ∙ c.if-not-layout_ok.true))

pub front_fair-requires : goal.front_fair-requires
front_fair-requires c = (laid c.args.words.now c.args.suffixes.now (sym c.layout_ok.ensures ∙ c.if-not-layout_ok.false)).words

pub returns-then-not-front_fair : goal.returns-then-not-front_fair
returns-then-not-front_fair c = sym (unfair _ _ (sym c.layout_ok.ensures ∙ c.if-not-layout_ok.false) (sym c.front_fair.ensures ∙ c.if-not-front_fair.true))

pub bounds-words-0 : goal.bounds-words-0
bounds-words-0 c = omega (arith, (laid c.args.words.now c.args.suffixes.now (sym c.layout_ok.ensures ∙ c.if-not-layout_ok.false)).words)

pub bounds-words-1 : goal.bounds-words-1
bounds-words-1 c = omega (arith, (laid c.args.words.now c.args.suffixes.now (sym c.layout_ok.ensures ∙ c.if-not-layout_ok.false)).words)

pub loop-q-init : goal.loop-q-init
loop-q-init c = by_places _ _ (sym c.layout_ok.ensures ∙ c.if-not-layout_ok.false) (sym c.front_fair.ensures ∙ c.if-not-front_fair.false) ∙ simp sub-zero

pub place_fair-requires : goal.place_fair-requires
place_fair-requires c = ((sym c.layout_ok.ensures ∙ c.if-not-layout_ok.false), c.loop-q-test.true)

pub returns-then-not-place_fair : goal.returns-then-not-place_fair
returns-then-not-place_fair c =
    let l = c.loop-q in
    sym (l.invariant ∙ all_stop _ _ l.q (omega arith) (sym c.place_fair.ensures ∙ c.if-not-place_fair.true))

pub loop-q-preserved : goal.loop-q-preserved
loop-q-preserved c =
    let l = c.loop-q in
    l.invariant ∙ all_next _ _ l.q (omega arith) (sym c.place_fair.ensures ∙ c.if-not-place_fair.false)

pub returns : goal.returns
returns c =
    let l = c.loop-q in
    sym (l.invariant ∙ all_end _ _ l.q (omega arith))
