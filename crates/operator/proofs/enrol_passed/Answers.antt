-- `operator::enrol_passed` meets its contract. Assumes nothing.
use mathlib.Core.Path.{refl, sym, ap, ◌∙◌}
use Rattle.std.specs.Result.{result_ok}
use Rattle.operator.proofs.Laws.{bad_name_lem, bad_term, bad_algorithm}
use Rattle.operator.proofs.enrol_passed.Goals as goal

pub returns-then-not-suffix_ok : goal.returns-then-not-suffix_ok
returns-then-not-suffix_ok c = bad_name_lem _ _ _ _ _ _ _ (sym c.suffix_ok.ensures ∙ c.if-not-suffix_ok.true) refl

pub returns-then-not-term_ok : goal.returns-then-not-term_ok
returns-then-not-term_ok c = bad_term _ _ _ _ _ _ _ (sym c.suffix_ok.ensures ∙ c.if-not-suffix_ok.false) (sym c.term_ok.ensures ∙ c.if-not-term_ok.true) refl

pub enrol_known-requires : goal.enrol_known-requires
enrol_known-requires c = (c.requires, sym c.suffix_ok.ensures ∙ c.if-not-suffix_ok.false, sym c.term_ok.ensures ∙ c.if-not-term_ok.false)

pub returns : goal.returns
returns c = c.enrol_known.ensures _ (c.try_from.ensures ∙ ap result_ok c.in-Ok.is)

pub returns-in_default : goal.returns-in_default
returns-in_default c = bad_algorithm _ _ _ _ _ _ _ (sym c.suffix_ok.ensures ∙ c.if-not-suffix_ok.false) (sym c.term_ok.ensures ∙ c.if-not-term_ok.false) (c.try_from.ensures ∙ ap result_ok c.in_default.is) refl
