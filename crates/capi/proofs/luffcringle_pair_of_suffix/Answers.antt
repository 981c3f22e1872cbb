-- `capi::luffcringle_pair_of_suffix` meets its contract. Assumes nothing.
use Rattle.capi.proofs.Inquiring.{found_as}
use Rattle.capi.proofs.luffcringle_pair_of_suffix.Goals as goal

pub returns : goal.returns
returns c = found_as c.pair_of_suffix-f.ensures c.tell_found.ensures
