-- `capi::luffcringle_asks` meets its contract. Assumes nothing.
use Rattle.capi.proofs.luffcringle_asks.Goals as goal

pub returns : goal.returns
returns c = c.tell_asks.ensures _ _ c.asks-a.ensures
