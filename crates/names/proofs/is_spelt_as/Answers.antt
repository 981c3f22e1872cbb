-- `names::is_spelt_as` meets its contract, by the cases of the algorithm. Assumes nothing.
use mathlib.Core.Path.{sym, ap, ◌∙◌}
use Rattle.model.specs.Names.{algorithm_name}
use Rattle.names.proofs.Fronts.{spelt_is}
use Rattle.names.proofs.is_spelt_as.Goals as goal

pub returns-in-Sha256 : goal.returns-in-Sha256
unfolding algorithm_name
returns-in-Sha256 c =
    λ e.
    spelt_is c.args.name.now 50 53 54 c.requires (sym c.is_spelt.ensures ∙ e) ∙ ap algorithm_name (sym c.in-Sha256.is)

pub returns-in-Sha384 : goal.returns-in-Sha384
unfolding algorithm_name
returns-in-Sha384 c =
    λ e.
    spelt_is c.args.name.now 51 56 52 c.requires (sym c.is_spelt-in-Sha384.ensures ∙ e) ∙ ap algorithm_name (sym c.in-Sha384.is)

pub returns-in-Sha512 : goal.returns-in-Sha512
unfolding algorithm_name
returns-in-Sha512 c =
    λ e.
    spelt_is c.args.name.now 53 49 50 c.requires (sym c.is_spelt-in-Sha512.ensures ∙ e) ∙ ap algorithm_name (sym c.in-Sha512.is)
