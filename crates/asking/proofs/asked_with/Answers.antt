-- `asking::asked_with` meets its contract. Assumes nothing.
use mathlib.Core.Path.{refl, ap, ◌∙◌}
use Rattle.model.specs.Names.{algorithm_named}
use Rattle.model.specs.Calls.{DONE}
use Rattle.model.specs.Inquiries.{number_named}
use Rattle.asking.proofs.Laws.{numbered}
use Rattle.asking.proofs.asked_with.Goals as goal

pub returns : goal.returns
unfolding DONE
returns c =
    λ owner.
    let m = c.args.m.now in
    let d = c.key_data-second.ensures m c.requires.1 in
    let n = numbered _ _ c.map_or-algorithm.ensures ∙ ap number_named (c.algorithm_named-named.ensures ∙ ap algorithm_named c.part_of.ensures.0) in
    record { says = rw (n, d.says) refl; within = (c.requires.0.key, d.within) }
