-- `capi::luffcringle_pair_of_key` meets its contract. Assumes nothing.
use Rattle.capi.proofs.Inquiring.{found_as}
use Rattle.capi.proofs.luffcringle_pair_of_key.Goals as goal

pub returns : goal.returns
returns c = found_as c.pair_of_key-f.ensures c.tell_found.ensures
