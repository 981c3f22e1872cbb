-- `judging::output_of` meets its contract. Assumes nothing.
use Rattle.model.specs.Names.{output_of}
use Rattle.judging.proofs.output_of.Goals as goal

pub returns-in-Sha256 : goal.returns-in-Sha256
unfolding output_of
returns-in-Sha256 c = simp c.in-Sha256.is

pub returns-in-Sha384 : goal.returns-in-Sha384
unfolding output_of
returns-in-Sha384 c = simp c.in-Sha384.is

pub returns-in-Sha512 : goal.returns-in-Sha512
unfolding output_of
returns-in-Sha512 c = simp c.in-Sha512.is
