-- `capi::luffcringle_key_name` meets its contract. Assumes nothing.
use Rattle.capi.proofs.Inquiring.{spelt_told}
use Rattle.capi.proofs.luffcringle_key_name.Goals as goal

pub returns : goal.returns
returns c = spelt_told c.key_name-s.ensures c.tell_length.ensures.0 c.tell_length.ensures.1
