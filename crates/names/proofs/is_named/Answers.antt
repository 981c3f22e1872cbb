-- `names::is_named` meets its contract, by the cases of the algorithm. Assumes nothing.
use mathlib.Core.Path.{sym, ap, ◌∙◌}
use Rattle.model.specs.declared.Algorithm.{Algorithm}
use Rattle.model.specs.Names.{same_name, algorithm_name}
use Rattle.names.proofs.is_named.Goals as goal

pub returns-in-Sha256 : goal.returns-in-Sha256
unfolding algorithm_name
returns-in-Sha256 c =
    let a = c.args in
    c.same_name.ensures ∙ ap (λ (g : Algorithm). same_name a.name.now (algorithm_name g)) (sym c.in-Sha256.is)

pub returns-in-Sha384 : goal.returns-in-Sha384
unfolding algorithm_name
returns-in-Sha384 c =
    let a = c.args in
    c.same_name-in-Sha384.ensures ∙ ap (λ (g : Algorithm). same_name a.name.now (algorithm_name g)) (sym c.in-Sha384.is)

pub returns-in-Sha512 : goal.returns-in-Sha512
unfolding algorithm_name
returns-in-Sha512 c =
    let a = c.args in
    c.same_name-in-Sha512.ensures ∙ ap (λ (g : Algorithm). same_name a.name.now (algorithm_name g)) (sym c.in-Sha512.is)
