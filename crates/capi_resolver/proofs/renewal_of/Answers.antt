-- `capi_resolver::renewal_of` meets its contract. Assumes nothing.
use Rattle.capi_resolver.proofs.Laws.{keeps_renewal, sends}
use Rattle.model.specs.Resolver.{written_renewal}
use lib.ListN.{length}
use Rattle.capi_resolver.proofs.renewal_of.Goals as goal

pub returns : goal.returns
returns c =
    let a = c.args in
    let name = a.name.now in
    let key = a.key.now in
    let room = length a.out.now in
    sends (λ s. written_renewal s a.id name a.algorithm a.inception a.expiration key room)
    (λ s. keeps_renewal s a.id name a.algorithm a.inception a.expiration key room) c.load-s.ensures c.write_renewal-w.ensures
    c.tell_sent.ensures c.keep.ensures
