-- `checking::layout_ok` meets its contract. The loop's invariant: the rule is what is left of it from the place q on, and no suffix before q leads past its octets. Assumes nothing.
use mathlib.Core.Path.{sym, ◌∙◌}
use native.Mathlib.Omega.{arith}
use native.Mathlib.Nat.{sub-zero}
use Rattle.checking.proofs.Laws.{all_end, all_stop, all_next, place_long, layout_words, layout_octets, layout_many, layout_places, passed_more}
use Rattle.checking.proofs.layout_ok.Goals as goal

pub returns-then-words-ne1091 : goal.returns-then-words-ne1091
returns-then-words-ne1091 c = sym (layout_words _ _ c.if-words-ne1091.true)

pub returns-then-suffixes-ne8192 : goal.returns-then-suffixes-ne8192
returns-then-suffixes-ne8192 c = sym (layout_octets _ _ c.if-suffixes-ne8192.true)

pub returns-then-count-gt64 : goal.returns-then-count-gt64
returns-then-count-gt64 c = sym (layout_many _ _ c.if-count-gt64.true)

pub loop-q-init : goal.loop-q-init
loop-q-init c =
    let a = c.if-words-ne1091.false in
    let b = c.if-suffixes-ne8192.false in
    (record { words = a; octets = b; short = λ r h. absurd (omega arith) }, layout_places _ _ a b c.if-count-gt64.false ∙ simp sub-zero)

pub returns-then-words-q-gt128 : goal.returns-then-words-q-gt128
returns-then-words-q-gt128 c =
    let l = c.loop-q in
    sym (l.invariant.1 ∙ all_stop _ _ l.q (omega arith) (place_long _ _ l.q c.if-words-q-gt128.true))

pub fits-requires : goal.fits-requires
fits-requires c = (passed_more c.loop-q.invariant.0 c.if-words-q-gt128.false, omega arith, omega arith)

pub returns-then-not-fits : goal.returns-then-not-fits
returns-then-not-fits c =
    let l = c.loop-q in
    sym (l.invariant.1 ∙ all_stop _ _ l.q (omega arith) (sym c.fits.ensures ∙ c.if-not-fits.true))

pub loop-q-preserved : goal.loop-q-preserved
loop-q-preserved c =
    let l = c.loop-q in
    (passed_more l.invariant.0 c.if-words-q-gt128.false, l.invariant.1 ∙ all_next _ _ l.q (omega arith) (sym c.fits.ensures ∙ c.if-not-fits.false))

pub returns : goal.returns
returns c =
    let l = c.loop-q in
    sym (l.invariant.1 ∙ all_end _ _ l.q (omega arith))
