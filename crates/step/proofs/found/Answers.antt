-- `step::found` meets its contract. Assumes nothing.
use mathlib.Core.Path.{◌∙◌}
use Rattle.judging.specs.Judged.{holder_of}
use Rattle.step.proofs.StepLaws.{found_unsigned, found_ill, found_none, found_key, nobody_signs, owner_signs, owner_number}
use Rattle.step.proofs.found.Goals as goal

pub signer_of-requires : goal.signer_of-requires
signer_of-requires c = let signs = rw c.in-Key.is at c.requires.0 in
    let fits = rw c.in-Some.is at c.requires.1 in
    (signs.1, fits, signs.0)

pub returns-in-Nobody : goal.returns-in-Nobody
returns-in-Nobody c = let a = c.args in found_unsigned (holder_of a.who a.suffix.now) a.m.now a.signer _ c.in-Nobody.is c.bare.ensures

pub returns-in-Ill : goal.returns-in-Ill
returns-in-Ill c = let a = c.args in found_ill (holder_of a.who a.suffix.now) a.m.now a.signer _ c.in-Ill.is c.bare-in-Ill.ensures

pub returns-in-None : goal.returns-in-None
returns-in-None c = let a = c.args in found_none (holder_of a.who a.suffix.now) a.m.now a.signer _ _ _ c.in-Key.is (nobody_signs a.who a.suffix.now _ c.in-None.is) c.bare-in-None.ensures

pub returns-in-None-signer_of : goal.returns-in-None-signer_of
returns-in-None-signer_of c = let a = c.args in
    found_none (holder_of a.who a.suffix.now) a.m.now a.signer _ _ _ c.in-Key.is
    (owner_signs a.who a.suffix.now _ _ c.in-Some.is _ c.signer_of.result c.signer_of.ensures.0 ∙ c.in-None-signer_of.is) c.bare-in-None-signer_of.ensures

pub returns-in-Some-signer_of : goal.returns-in-Some-signer_of
returns-in-Some-signer_of c = let a = c.args in
    found_key (holder_of a.who a.suffix.now) a.m.now a.signer _ _ _ c.in-Key.is _ _ (owner_number a.who a.suffix.now _ _ c.in-Some.is)
    (owner_signs a.who a.suffix.now _ _ c.in-Some.is _ c.signer_of.result c.signer_of.ensures.0 ∙ c.in-Some-signer_of.is) c.bare-in-Some-signer_of.ensures
