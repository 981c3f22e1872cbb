-- `names::algorithm_named` meets its contract: each return rewrites with the tests that led there. Assumes nothing.
use mathlib.Core.Path.{sym, ◌∙◌}
use Rattle.model.specs.Names.{algorithm_named}
use Rattle.names.proofs.algorithm_named.Goals as goal

pub returns-then-is_algorithm : goal.returns-then-is_algorithm
unfolding algorithm_named
returns-then-is_algorithm c =
    let e1 = sym c.is_algorithm.ensures ∙ c.if-is_algorithm.true in
    simp (e1)

pub returns-then-is_algorithm-2 : goal.returns-then-is_algorithm-2
unfolding algorithm_named
returns-then-is_algorithm-2 c =
    let e2 = sym c.is_algorithm-2.ensures ∙ c.if-is_algorithm-2.true in
    let e1 = sym c.is_algorithm.ensures ∙ c.if-is_algorithm.false in
    simp (e1, e2)

pub returns-then-is_algorithm-3 : goal.returns-then-is_algorithm-3
unfolding algorithm_named
returns-then-is_algorithm-3 c =
    let e3 = sym c.is_algorithm-3.ensures ∙ c.if-is_algorithm-3.true in
    let e2 = sym c.is_algorithm-2.ensures ∙ c.if-is_algorithm-2.false in
    let e1 = sym c.is_algorithm.ensures ∙ c.if-is_algorithm.false in
    simp (e1, e2, e3)

pub returns : goal.returns
unfolding algorithm_named
returns c =
    let e3 = sym c.is_algorithm-3.ensures ∙ c.if-is_algorithm-3.false in
    let e2 = sym c.is_algorithm-2.ensures ∙ c.if-is_algorithm-2.false in
    let e1 = sym c.is_algorithm.ensures ∙ c.if-is_algorithm.false in
    simp (e1, e2, e3)
