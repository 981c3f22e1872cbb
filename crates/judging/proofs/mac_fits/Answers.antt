-- `judging::mac_fits` meets its contract. Assumes nothing.
use Rattle.std.proofs.Common.{sym, refl}
use Rattle.records.proofs.Parts.{cut_length}
use Rattle.model.specs.Judging.{mac_fits}
use Rattle.judging.proofs.mac_fits.Goals as goal

pub returns : goal.returns
unfolding mac_fits
returns c = λ m within. rw (cut_length m _ within, sym c.output_of-output.ensures) refl
